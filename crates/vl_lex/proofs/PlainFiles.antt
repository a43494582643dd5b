-- A file without a backquote is its pieces.
use Rattle.std.proofs.Common.{◌≡◌, ℕ, zero, suc, ◌+◌, ◌<◌, ◌≤◌, ◌^◌, List, [], ◌∷◌, ◌++◌, length, length-drop, take, drop, Bool, true, false, refl, sym, append_assoc, arith}
use Rattle.std.specs.Prelude.{Option, Some, None, Ok, Err, ◌==◌, ◌&&◌, not, nat_lt, if◌then◌else◌}
use Rattle.std.specs.List.{list_all, prefix_len}
use Rattle.std.proofs.lemmas.Bool.{and_parts, le-ltb}
use Rattle.std.proofs.lemmas.List.{append-nil}
use Rattle.std.specs.Char.{is_ascii_digit}
use Rattle.sg_text.specs.declared.places.Place.{Place}
use Rattle.vl_token.specs.Tokens.{Lexeme}
use Rattle.sg_text.specs.Names.{is_name_start, is_name_byte}
use Rattle.vl_pieces.specs.Bytes.{is_blank, is_graphic, is_inline, first_of}
use Rattle.vl_pieces.specs.Ends.{end_of, quote_end}
use Rattle.vl_pieces.specs.NumberBridge.{number_len, sized_len}
use Rattle.vl_lex.specs.State.{State, Fault, Outcome, first_settings, first_state}
use Rattle.vl_pieces.specs.Modes.{IsPiece, Piece, is_value_byte, is_endtable, cell_of}
use Rattle.vl_pieces.specs.PieceBridge.{ended_piece, slash_piece, attribute_piece, paren_piece, symbol_len, long_piece, point_piece, digit_piece, piece_from, piece_of, edge_piece, cell_piece, table_piece, line_piece, piece_in}
use Rattle.vl_pieces.specs.Meanings.{meaning_of}
use Rattle.vl_lex.specs.Effects.{place_at, tokens_at, mode_behind, fault_of, is_use}
use Rattle.vl_lex.specs.Lexes.{first_fault, IsRead, Expands, LexesUnless, Lexes}
use Rattle.vl_lex.specs.Laws.{AreSplit, tokens_of, unless_fault}
use Rattle.vl_lex.specs.declared.faults.Found.{Found}
use Rattle.vl_pieces.specs.declared.bytes.First.{First}
use Rattle.vl_pieces.specs.declared.bytes.First.TheVariants.{Blank, Letter, Backslash, Dollar, Quote, Tick, Apostrophe, Slash, Paren, Mark, Bad}
use Rattle.vl_pieces.specs.declared.modes.Mode.{Mode}
use Rattle.vl_pieces.specs.declared.modes.Mode.TheVariants.{Plain, AfterEdge, Edges, Table, EdgesTable, Line}
use Rattle.vl_lex.specs.declared.origins.Origin.TheVariants.{File}
use Rattle.vl_pieces.specs.declared.pieces.Class.{Class}
use Rattle.vl_pieces.specs.declared.pieces.Class.TheVariants as class
use Rattle.vl_pieces.proofs.ModeLaws.{piece_in_front, piece_some}

abbrev NoTick : List ℕ → Type 0
NoTick text = list_all (λ b. not (b == 96)) text ≡ true

-- ---- no piece is a use

abbrev NoUse : Class × ℕ → Type 0
NoUse p = is_use p.0 ≡ false

if_no_use : (c : Bool) (p q : Class × ℕ) → NoUse p → NoUse q → NoUse (if c then p else q)
if_no_use true p q h k = h
if_no_use false p q h k = k

long_no_use : (c : Class) (n : ℕ) → is_use c ≡ false → NoUse (long_piece c n)
long_no_use c zero h = refl
long_no_use c (suc n) h = h

ended_no_use : (c u : Class) (n : ℕ) (o : Option ℕ) (rest : List ℕ) → is_use c ≡ false → is_use u ≡ false → NoUse (ended_piece c u n o rest)
ended_no_use c u n None rest h k = k
ended_no_use c u n (Some m) rest h k = h

slash_no_use : (bs : List ℕ) → NoUse (slash_piece bs)
slash_no_use [] = refl
slash_no_use (b ∷ bs) =
    if_no_use (b == 47) (class.Gap, 2 + prefix_len is_inline bs) (if b == 42 then ended_piece class.Gap class.UnendedComment 2 (end_of 42 47 bs) bs else (class.Other, 1)) refl
    (if_no_use (b == 42) (ended_piece class.Gap class.UnendedComment 2 (end_of 42 47 bs) bs) (class.Other, 1) (ended_no_use class.Gap class.UnendedComment 2 (end_of 42 47 bs) bs refl refl) refl)

attribute_no_use : (bs : List ℕ) → NoUse (attribute_piece bs)
attribute_no_use [] = ended_no_use class.Attribute class.UnendedComment 2 (end_of 42 41 []) [] refl refl
attribute_no_use (b ∷ bs) =
    if_no_use (b == 41) (class.Symbol, 1) (ended_piece class.Attribute class.UnendedComment 2 (end_of 42 41 (b ∷ bs)) (b ∷ bs)) refl
    (ended_no_use class.Attribute class.UnendedComment 2 (end_of 42 41 (b ∷ bs)) (b ∷ bs) refl refl)

paren_no_use : (bs : List ℕ) → NoUse (paren_piece bs)
paren_no_use [] = refl
paren_no_use (b ∷ bs) = if_no_use (b == 42) (attribute_piece bs) (class.Symbol, 1) (attribute_no_use bs) refl

abbrev is_tick : First → Bool
is_tick Tick = true
is_tick _ = false

from_no_use : (f : First) (b : ℕ) (bs : List ℕ) → is_tick f ≡ false → NoUse (piece_from f b bs)
from_no_use Blank b bs h = refl
from_no_use Letter b bs h = refl
from_no_use Backslash b bs h = long_no_use class.Escaped (prefix_len is_graphic bs) refl
from_no_use Dollar b bs h = long_no_use class.System (prefix_len is_name_byte bs) refl
from_no_use Quote b bs h = ended_no_use class.Quoted class.UnendedText 1 (quote_end bs) bs refl refl
from_no_use Tick b bs h = absurd (cc)
from_no_use Apostrophe b bs h = if_no_use (sized_len (b ∷ bs) == 0) (class.Other, 1) (class.Sized, sized_len (b ∷ bs)) refl refl
from_no_use Slash b bs h = slash_no_use bs
from_no_use Paren b bs h = paren_no_use bs
from_no_use Mark b bs h = if_no_use (symbol_len (b ∷ bs) == 0) (class.Other, 1) (class.Symbol, symbol_len (b ∷ bs)) refl refl
from_no_use Bad b bs h = refl

chain : (c d e f g h i j k : Bool)
    → is_tick (if c then Blank else if d then Letter else if e then Backslash else if f then Dollar else if g then Quote else if false then Tick else if h then Apostrophe else if i then Slash else if j then Paren else if k then Mark else Bad) ≡ false
chain true d e f g h i j k = refl
chain false true e f g h i j k = refl
chain false false true f g h i j k = refl
chain false false false true g h i j k = refl
chain false false false false true h i j k = refl
chain false false false false false true i j k = refl
chain false false false false false false true j k = refl
chain false false false false false false false true k = refl
chain false false false false false false false false true = refl
chain false false false false false false false false false = refl

first_no_tick : (b : ℕ) → (b == 96) ≡ false → is_tick (first_of b) ≡ false
first_no_tick b h = rw h (chain (is_blank b) (is_name_start b) (b == 92) (b == 36) (b == 34) (b == 39) (b == 47) (b == 40) (is_graphic b))

not_96 : (b : ℕ) (bs : List ℕ) → NoTick (b ∷ bs) → (b == 96) ≡ false
not_96 b bs h = negated (b == 96) (and_parts (not (b == 96)) (list_all (λ c. not (c == 96)) bs) h).0
  where
    negated : (c : Bool) → not c ≡ true → c ≡ false
    negated true k = absurd (cc)
    negated false k = refl

plain_no_use : (text : List ℕ) → NoTick text → NoUse (piece_of text)
plain_no_use [] h = refl
plain_no_use (b ∷ bs) h =
    if_no_use (is_ascii_digit b) (digit_piece (number_len (b ∷ bs)) (sized_len (b ∷ bs))) (if b == 46 then point_piece (number_len (b ∷ bs)) else piece_from (first_of b) b bs)
    (if_no_use (nat_lt (number_len (b ∷ bs)) (sized_len (b ∷ bs))) (class.Sized, sized_len (b ∷ bs)) (class.Number, number_len (b ∷ bs)) refl refl)
    (if_no_use (b == 46) (point_piece (number_len (b ∷ bs))) (piece_from (first_of b) b bs)
    (if_no_use (number_len (b ∷ bs) == 0) (class.Symbol, 1) (class.Number, number_len (b ∷ bs)) refl refl)
    (from_no_use (first_of b) b bs (first_no_tick b (not_96 b bs h))))

edge_no_use : (text : List ℕ) → NoTick text → NoUse (edge_piece text)
edge_no_use [] h = plain_no_use [] h
edge_no_use (a ∷ []) h = plain_no_use (a ∷ []) h
edge_no_use (a ∷ b ∷ bs) h = if_no_use (is_value_byte a && is_value_byte b) (class.Pair, 2) (piece_of (a ∷ b ∷ bs)) refl (plain_no_use (a ∷ b ∷ bs) h)

cell_of_no_use : (c : Class) → is_use c ≡ false → is_use (cell_of c) ≡ false
cell_of_no_use class.Other h = refl
cell_of_no_use c h = h

cell_no_use : (f : First) (bs : List ℕ) → NoUse (cell_piece f bs)
cell_no_use Blank bs = refl
cell_no_use Slash bs = cell_of_no_use (slash_piece bs).0 (slash_no_use bs)
cell_no_use Bad bs = refl
cell_no_use _ bs = refl

table_no_use : (text : List ℕ) → NoUse (table_piece text)
table_no_use [] = refl
table_no_use (b ∷ bs) = if_no_use (is_endtable (take 8 (b ∷ bs)) (drop 8 (b ∷ bs))) (class.Name, 8) (cell_piece (first_of b) bs) refl (cell_no_use (first_of b) bs)

line_no_use : (text : List ℕ) → NoUse (line_piece text)
line_no_use [] = refl
line_no_use (b ∷ bs) = if_no_use (b == 10) (class.Gap, 1) (class.Line, 1 + prefix_len is_inline bs) refl refl

no_use : (mode : Mode) (text : List ℕ) → NoTick text → NoUse (piece_in mode text)
no_use Plain text h = plain_no_use text h
no_use AfterEdge text h = plain_no_use text h
no_use Edges text h = edge_no_use text h
no_use Table text h = table_no_use text
no_use EdgesTable text h = table_no_use text
no_use Line text h = line_no_use text

behind_no_tick : (n : ℕ) (text : List ℕ) → NoTick text → NoTick (drop n text)
behind_no_tick zero text h = h
behind_no_tick (suc n) [] h = h
behind_no_tick (suc n) (b ∷ bs) h = behind_no_tick n bs (and_parts (not (b == 96)) (list_all (λ c. not (c == 96)) bs) h).1

-- ---- the pieces, one after another

-- a state where no directive was met
abbrev plain_state : Mode → List Lexeme → State
plain_state mode tokens = record first_state { mode = mode; tokens = tokens }

abbrev plain_outcome : Option Fault → Mode → List Lexeme → Outcome
plain_outcome None mode tokens = Ok (plain_state mode tokens)
plain_outcome (Some f) mode tokens = Err f

module _ (E : Place → List ℕ → State → Outcome → Type 0) where
  abbrev IsPlain : ℕ → List ℕ → Mode → List Lexeme → Type 0
  IsPlain at text mode tokens =
      (ps : List Piece) × AreSplit mode text ps
      × ((last : Mode) × IsRead E (File 0) at text (plain_state mode tokens) (plain_outcome (first_fault (File 0) at text ps) last (tokens ++ tokens_of (File 0) at text first_settings ps)))

  abbrev put : ℕ → Class → List ℕ → List Lexeme
  put at c bytes = tokens_at (place_at (File 0) at) (meaning_of c bytes first_settings)

  plain_step : (at : ℕ) (text : List ℕ) (mode : Mode) (tokens : List Lexeme) (n : ℕ) (c : Class) → IsPiece mode text n c → is_use c ≡ false
      → IsPlain (at + n) (drop n text) (mode_behind mode c (take n text)) (tokens ++ put at c (take n text)) → (o : Option Found) → fault_of c (take n text) ≡ o → IsPlain at text mode tokens
  plain_step at text mode tokens n c p u rest (Some f) e =
      (record { class = c; size = n } ∷ rest.0, (p, rest.1), (mode, rw e (record { class = c; size = n } ∷ [], (p, (Err (record { kind = f.kind; place = place_at (File 0) (at + f.behind) }), rw e refl, refl)))))
  plain_step at text mode tokens n c p u rest None e =
      let x : Piece = record { class = c; size = n } in (
        x ∷ rest.0,
        (p, rest.1),
        (
          rest.2.0,
          rw (e, ← append_assoc tokens (put at c (take n text)) (tokens_of (File 0) (at + n) (drop n text) first_settings rest.0))
              (x ∷ rest.2.1.0, (p, (Ok (plain_state (mode_behind mode c (take n text)) (tokens ++ put at c (take n text))), rw (e, u) refl, rest.2.1.1))),
        ),
      )

  plain_from : (most at : ℕ) (text : List ℕ) (mode : Mode) (tokens : List Lexeme) → NoTick text → length text ≤ most → IsPlain at text mode tokens
  plain_from most at [] mode tokens h le = ([], refl, (mode, ([], (refl, rw (append-nil tokens) refl))))
  plain_from zero at (b ∷ bs) mode tokens h le = absurd (omega arith)
  plain_from (suc most) at (b ∷ bs) mode tokens h le =
      let text : List ℕ = b ∷ bs in
      let n : ℕ = (piece_in mode text).1 in
      let c : Class = (piece_in mode text).0 in
      let p : IsPiece mode text n c = piece_in_front mode text (omega arith) in
      let some : 0 < n = piece_some mode text n c p in
      plain_step at text mode tokens n c p (no_use mode text h)
      (plain_from most (at + n) (drop n text) (mode_behind mode c (take n text)) (tokens ++ put at c (take n text)) (behind_no_tick n text h) (omega (arith, length-drop n text)))
      (fault_of c (take n text)) refl

-- the outcome of the one file
file_is : (text : List ℕ) (f : Option Fault) (last : Mode) (tokens : List Lexeme) → IsRead (Expands 16) (File 0) 0 text first_state (plain_outcome f last tokens)
    → LexesUnless None (2 ^ 28) 16 (text ∷ []) (unless_fault f tokens)
file_is text None last tokens read = (Ok (plain_state last tokens), (Ok (plain_state last tokens), read, refl), refl)
file_is text (Some f) last tokens read = (Err f, (Err f, read, refl), refl)

pub plain_file : (text : List ℕ) → list_all (λ b. not (b == 96)) text ≡ true → length text ≤ 2 ^ 28
    → (ps : List Piece) × AreSplit Plain text ps × Lexes (text ∷ []) (unless_fault (first_fault (File 0) 0 text ps) (tokens_of (File 0) 0 text first_settings ps))
plain_file text h le =
    let p = plain_from (Expands 16) (length text) 0 text Plain [] h (omega arith) in
    let small : nat_lt (2 ^ 28) (length text) ≡ false = le-ltb (2 ^ 28) (length text) le in
    (p.0, p.1, rw small (file_is text (first_fault (File 0) 0 text p.0) p.2.0 (tokens_of (File 0) 0 text first_settings p.0) p.2.1))
