-- A bridge, on which no public clause rests: the first piece of a text, as the code finds it. That it is the definition's is proved
-- (`proofs/PieceLaws.antt`).
use Rattle.std.specs.Prelude.{ℕ, ◌+◌, ◌-◌, ◌<◌, ◌==◌, ◌&&◌, nat_le, nat_lt, Bool, true, false, List, [], ◌∷◌, length, take, drop, Option, Some, None, if◌then◌else◌}
use Rattle.std.specs.List.{prefix_len}
use Rattle.vl_pieces.specs.Bytes.{is_inline}
use Rattle.vl_pieces.specs.Ends.{end_of}
use Rattle.sdf_lex.specs.declared.bytes.ByteClass.{ByteClass}
use Rattle.sdf_lex.specs.declared.bytes.ByteClass.TheVariants as class
use Rattle.sdf_lex.specs.declared.letters.Letter.{Letter}
use Rattle.sdf_lex.specs.declared.letters.Letter.TheVariants.{Plain, Escaped}
use Rattle.sdf_lex.specs.declared.letters.Ends.{Ends}
use Rattle.sdf_lex.specs.declared.pieces.Kind.{Kind}
use Rattle.sdf_lex.specs.declared.pieces.Kind.TheVariants as kind
use Rattle.sdf_lex.specs.Tokens.{Meaning, Lexeme, word_token, text_token, unended_token}
use Rattle.sdf_lex.specs.Bytes.{class_of, is_good, is_unquoted}
use Rattle.sdf_lex.specs.Words.{written, spelled, is_bracket, may_be, with_last, Cut, last_cut, index_of}
use Rattle.sdf_lex.specs.Operators.{operator_of, is_operator}
use Rattle.sdf_lex.specs.Pieces.{Piece, blank_piece, line_comment, block_comment, open_comment, word_piece, text_piece, open_text, symbol_piece, mark_piece, bad_piece, here, select_tokens, symbol_meaning, mark_meaning}

-- ---- words

abbrev pub escaped_letter : List ℕ → Option Letter
escaped_letter [] = None
escaped_letter (b ∷ bs) = if is_good (class_of b) then Some (Escaped b) else None

-- the letter that goes on a word with these ends so far
abbrev pub next_letter : Option Ends → List ℕ → Option Letter
next_letter ends [] = None
next_letter ends (b ∷ bs) = if b == 92 then escaped_letter bs else if may_be (class_of b) ends b bs then Some (Plain b) else None

-- the letters that go on it
abbrev pub run_of : Option Ends → List ℕ → List Letter
run_of ends [] = []
run_of ends (b ∷ []) = if b == 92 then [] else if may_be (class_of b) ends b [] then Plain b ∷ [] else []
run_of ends (b ∷ c ∷ cs) =
    if b == 92 then (if is_good (class_of c) then Escaped c ∷ run_of (Some (with_last ends (Escaped c))) cs else [])
    else if may_be (class_of b) ends b (c ∷ cs) then Plain b ∷ run_of (Some (with_last ends (Plain b))) (c ∷ cs)
    else []

abbrev pub bracket_with : Letter → ℕ → Option ℕ → Option ℕ
bracket_with l at before = if is_bracket l then Some at else before

-- how many bytes letters have, and where the last unescaped bracket stands, behind so many bytes and a bracket
abbrev pub measured : ℕ → Option ℕ → List Letter → ℕ × Option ℕ
measured n before [] = (n, before)
measured n before (l ∷ ls) = measured (n + length (written l)) (bracket_with l n before) ls

-- ---- the first piece

abbrev pub comment_of : List ℕ → Option ℕ → Piece
comment_of inside None = open_comment inside
comment_of inside (Some n) = block_comment (take (n - 2) inside)

abbrev pub slash_piece : List ℕ → Piece
slash_piece [] = mark_piece 47
slash_piece (c ∷ cs) = if c == 47 then line_comment (take (prefix_len is_inline cs) cs) else comment_of cs (end_of 42 47 cs)

abbrev pub quote_piece : List ℕ → Piece
quote_piece bs = if nat_lt (prefix_len is_unquoted bs) (length bs) then text_piece (take (prefix_len is_unquoted bs) bs) else open_text bs

abbrev pub symbol_len : List ℕ → ℕ
symbol_len text =
    if nat_le 3 (length text) && is_operator (take 3 text) then 3
    else if nat_le 2 (length text) && is_operator (take 2 text) then 2
    else 1

abbrev pub class_piece : ByteClass → ℕ → List ℕ → Piece
class_piece class.Blank b bs = blank_piece b
class_piece class.Operator b bs = symbol_piece (take (symbol_len (b ∷ bs)) (b ∷ bs))
class_piece class.Bad b bs = bad_piece b
class_piece _ b bs = mark_piece b

abbrev pub other_piece : ℕ → List ℕ → Piece
other_piece b bs = if b == 34 then quote_piece bs else if b == 47 then slash_piece bs else class_piece (class_of b) b bs

abbrev pub word_or : List Letter → Piece → Piece
word_or [] p = p
word_or (l ∷ ls) p = word_piece (l ∷ ls)

abbrev pub first_piece : List ℕ → Piece
first_piece [] = bad_piece 0
first_piece (b ∷ bs) = word_or (run_of None (b ∷ bs)) (other_piece b bs)

-- ---- its kind and its size

abbrev pub comment_cut : List ℕ → Option ℕ → Kind × ℕ
comment_cut inside None = (kind.Gap, 2 + length inside)
comment_cut inside (Some n) = (kind.Gap, 2 + n)

abbrev pub slash_cut : List ℕ → Kind × ℕ
slash_cut [] = (kind.Mark, 1)
slash_cut (c ∷ cs) = if c == 47 then (kind.Gap, 2 + prefix_len is_inline cs) else comment_cut cs (end_of 42 47 cs)

abbrev pub quote_cut : List ℕ → Kind × ℕ
quote_cut bs = if nat_lt (prefix_len is_unquoted bs) (length bs) then (kind.Text, 2 + prefix_len is_unquoted bs) else (kind.UnendedText, 1 + length bs)

abbrev pub class_cut : ByteClass → List ℕ → Kind × ℕ
class_cut class.Blank text = (kind.Gap, 1)
class_cut class.Operator text = (kind.Symbol, symbol_len text)
class_cut class.Bad text = (kind.Bad, 1)
class_cut _ text = (kind.Mark, 1)

abbrev pub other_cut : ℕ → List ℕ → Kind × ℕ
other_cut b bs = if b == 34 then quote_cut bs else if b == 47 then slash_cut bs else class_cut (class_of b) (b ∷ bs)

abbrev pub word_cut : ℕ × Option ℕ → Kind × ℕ → Kind × ℕ
word_cut word other = if word.0 == 0 then other else (kind.Word word.1, word.0)

abbrev pub first_cut : List ℕ → Kind × ℕ
first_cut [] = (kind.Bad, 0)
first_cut (b ∷ bs) = word_cut (measured 0 None (run_of None (b ∷ bs))) (other_cut b bs)

abbrev pub bracket_at : Option Cut → Option ℕ
bracket_at None = None
bracket_at (Some c) = Some (length (spelled c.name))

abbrev pub kind_of : Piece → Kind
kind_of (blank_piece b) = kind.Gap
kind_of (line_comment inside) = kind.Gap
kind_of (block_comment inside) = kind.Gap
kind_of (open_comment inside) = kind.Gap
kind_of (word_piece ls) = kind.Word (bracket_at (last_cut ls))
kind_of (text_piece inside) = kind.Text
kind_of (open_text inside) = kind.UnendedText
kind_of (symbol_piece bytes) = kind.Symbol
kind_of (mark_piece b) = kind.Mark
kind_of (bad_piece b) = kind.Bad

-- a word's bracket is one of its bytes
abbrev pub IsWithin : Kind → ℕ → Type 0
IsWithin (kind.Word (Some n)) size = n < size
IsWithin _ size = Unit {0}

abbrev pub is_bad_kind : Kind → Bool
is_bad_kind kind.Bad = true
is_bad_kind _ = false

-- ---- the tokens of a piece of a kind, at a byte

abbrev pub bracket_tokens : ℕ → List ℕ → Option ℕ → List Lexeme
bracket_tokens at bytes None = here (word_token bytes) at ∷ []
bracket_tokens at bytes (Some n) = select_tokens at bytes (take n bytes) (index_of (drop (n + 1) bytes))

abbrev pub first_mark : List ℕ → Meaning
first_mark [] = mark_meaning 0
first_mark (b ∷ bs) = mark_meaning b

abbrev pub kind_tokens : ℕ → Kind → List ℕ → List Lexeme
kind_tokens at kind.Gap bytes = []
kind_tokens at (kind.Word bracket) bytes = bracket_tokens at bytes bracket
kind_tokens at kind.Text bytes = here (text_token (take (length bytes - 2) (drop 1 bytes))) at ∷ []
kind_tokens at kind.UnendedText bytes = here unended_token at ∷ []
kind_tokens at kind.Symbol bytes = here (symbol_meaning bytes (operator_of bytes)) at ∷ []
kind_tokens at kind.Mark bytes = here (first_mark bytes) at ∷ []
kind_tokens at kind.Bad bytes = []
