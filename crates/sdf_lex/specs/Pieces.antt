-- The pieces that an SDF file is made of (IEEE 1497-2001, the clause on lexical elements), and the tokens that they are.
use Rattle.std.specs.Prelude.{ℕ, ◌≡◌, ◌≤◌, ◌+◌, ◌==◌, ◌||◌, not, Bool, true, false, List, [], ◌∷◌, ◌++◌, length, Option, Some, None, if◌then◌else◌}
use Rattle.std.specs.List.{list_all}
use Rattle.std.specs.Prelude.{ℤ}
use Rattle.cond_expr.specs.declared.tokens.Op.{Op}
use Rattle.vl_pieces.specs.Bytes.{is_inline}
use Rattle.vl_pieces.specs.Ends.{end_of}
use Rattle.sdf_lex.specs.Tokens.{Meaning, Lexeme, word_token, selected_token, select_token, text_token, unended_token, operator_token, left_token, right_token, colon_token, star_token, other_token}
use Rattle.sdf_lex.specs.declared.bytes.ByteClass.{ByteClass}
use Rattle.sdf_lex.specs.declared.bytes.ByteClass.TheVariants as class
use Rattle.sdf_lex.specs.declared.letters.Letter.{Letter}
use Rattle.sdf_lex.specs.Bytes.{class_of, is_unquoted, begins_number, begins_good}
use Rattle.sdf_lex.specs.Words.{spelled, Fits, Cut, last_cut, index_of}
use Rattle.sdf_lex.specs.Operators.{operator_of, is_operator}

pub data Piece : Type 0 where
  blank_piece : ℕ → Piece
  -- what stands behind `//` up to the end of the line, between `/*` and `*/`, and behind a `/*` that nothing ends
  line_comment block_comment open_comment : List ℕ → Piece
  word_piece : List Letter → Piece
  -- what stands between two quotes, and behind one that nothing ends
  text_piece open_text : List ℕ → Piece
  -- an operator, or a `=` alone
  symbol_piece : List ℕ → Piece
  -- another printable byte
  mark_piece : ℕ → Piece
  bad_piece : ℕ → Piece

abbrev pub spelling : Piece → List ℕ
spelling (blank_piece b) = b ∷ []
spelling (line_comment inside) = 47 ∷ 47 ∷ inside
spelling (block_comment inside) = 47 ∷ 42 ∷ (inside ++ 42 ∷ 47 ∷ [])
spelling (open_comment inside) = 47 ∷ 42 ∷ inside
spelling (word_piece ls) = spelled ls
spelling (text_piece inside) = 34 ∷ (inside ++ 34 ∷ [])
spelling (open_text inside) = 34 ∷ inside
spelling (symbol_piece bytes) = bytes
spelling (mark_piece b) = b ∷ []
spelling (bad_piece b) = b ∷ []

-- A printable byte that is neither of a word nor of an operator: a sign where no digit and no point follows, and a backslash
-- that takes no byte, are such.
abbrev pub is_mark : ByteClass → List ℕ → Bool
is_mark class.Mark after = true
is_mark class.Sign after = not (begins_number after)
is_mark class.Backslash after = not (begins_good after)
is_mark _ after = false

abbrev pub is_alone : List ℕ → Bool
is_alone [] = true
is_alone (b ∷ bs) = false

-- the form that a piece has, where these bytes come after it
abbrev pub HasForm : Piece → List ℕ → Type 0
HasForm (blank_piece b) after = class_of b ≡ class.Blank
HasForm (line_comment inside) after = list_all is_inline inside ≡ true
HasForm (block_comment inside) after = end_of 42 47 (inside ++ 42 ∷ []) ≡ None
HasForm (open_comment inside) after = (end_of 42 47 inside ≡ None) × (after ≡ [])
HasForm (word_piece []) after = ⊥
HasForm (word_piece (l ∷ ls)) after = Fits None (l ∷ ls) after
HasForm (text_piece inside) after = list_all is_unquoted inside ≡ true
HasForm (open_text inside) after = (list_all is_unquoted inside ≡ true) × (after ≡ [])
HasForm (symbol_piece []) after = ⊥
HasForm (symbol_piece (b ∷ bs)) after = (class_of b ≡ class.Operator) × ((is_alone bs || is_operator (b ∷ bs)) ≡ true)
HasForm (mark_piece b) after = is_mark (class_of b) after ≡ true
HasForm (bad_piece b) after = class_of b ≡ class.Bad

-- a piece of a text: it has its form, and none that is longer stands in its place
pub record IsPiece (p : Piece) (after : List ℕ) : Type 0 where
  pub form : HasForm p after
  pub longest : (q : Piece) (behind : List ℕ) → HasForm q behind → spelling q ++ behind ≡ spelling p ++ after → length (spelling q) ≤ length (spelling p)

abbrev pub spellings : List Piece → List ℕ
spellings [] = []
spellings (p ∷ ps) = spelling p ++ spellings ps

abbrev pub ArePieces : List Piece → Type 0
ArePieces [] = Unit {0}
ArePieces (p ∷ ps) = IsPiece p (spellings ps) × ArePieces ps

-- the pieces spell the text, and each is the longest
abbrev pub Spelled : List ℕ → List Piece → Type 0
Spelled text ps = (spellings ps ≡ text) × ArePieces ps

-- ---- the tokens of pieces

abbrev pub here : Meaning → ℕ → Lexeme
here meaning at = record { meaning = meaning; place = record { file = 0; byte = at } }

abbrev pub select_tokens : ℕ → List ℕ → List ℕ → Option ℤ → List Lexeme
select_tokens at whole name None = here (word_token whole) at ∷ []
select_tokens at whole name (Some n) = here (selected_token whole name) at ∷ here (select_token n) (at + length name) ∷ []

abbrev pub word_tokens : ℕ → List ℕ → Option Cut → List Lexeme
word_tokens at whole None = here (word_token whole) at ∷ []
word_tokens at whole (Some c) = select_tokens at whole (spelled c.name) (index_of (spelled c.behind))

abbrev pub first_other : List ℕ → Meaning
first_other [] = other_token 0
first_other (b ∷ bs) = other_token b

abbrev pub symbol_meaning : List ℕ → Option Op → Meaning
symbol_meaning bytes (Some op) = operator_token op
symbol_meaning bytes None = first_other bytes

abbrev pub mark_meaning : ℕ → Meaning
mark_meaning b =
    if b == 40 then left_token
    else if b == 41 then right_token
    else if b == 58 then colon_token
    else if b == 42 then star_token
    else other_token b

abbrev pub tokens_of : ℕ → Piece → List Lexeme
tokens_of at (word_piece ls) = word_tokens at (spelled ls) (last_cut ls)
tokens_of at (text_piece inside) = here (text_token inside) at ∷ []
tokens_of at (open_text inside) = here unended_token at ∷ []
tokens_of at (symbol_piece bytes) = here (symbol_meaning bytes (operator_of bytes)) at ∷ []
tokens_of at (mark_piece b) = here (mark_meaning b) at ∷ []
tokens_of at _ = []

-- the tokens of pieces that begin at a byte
abbrev pub tokens : ℕ → List Piece → List Lexeme
tokens at [] = []
tokens at (p ∷ ps) = tokens_of at p ++ tokens (at + length (spelling p)) ps

abbrev pub is_bad : Piece → Bool
is_bad (bad_piece b) = true
is_bad _ = false

-- the first bad byte of pieces that begin at a byte
abbrev pub first_bad : ℕ → List Piece → Option ℕ
first_bad at [] = None
first_bad at (p ∷ ps) = if is_bad p then Some at else first_bad (at + length (spelling p)) ps
