-- The kind and the size that the code finds are those of the first piece, and so are its tokens.
use Rattle.std.proofs.Common.{◌≡◌, ℕ, ◌+◌, ◌-◌, ◌<◌, List, [], ◌∷◌, ◌++◌, length, take, drop, false, refl, sym, ap, ◌∙◌, arith, inl, inr}
use Rattle.std.specs.Prelude.{Option, Some, None, ◌==◌, nat_lt}
use Rattle.std.specs.List.{prefix_len}
use Rattle.std.proofs.lemmas.Bool.{cases_Bool, ne_eqb}
use Rattle.std.proofs.lemmas.List.{append_assoc, take_at, drop_at, length-append, length-take}
use Rattle.std.proofs.lemmas.List.Folds.{length-prefix_len}
use Rattle.vl_pieces.specs.Bytes.{is_inline}
use Rattle.vl_pieces.specs.Ends.{end_of}
use Rattle.sdf_lex.specs.declared.bytes.ByteClass.{ByteClass}
use Rattle.sdf_lex.specs.declared.bytes.ByteClass.TheVariants as class
use Rattle.sdf_lex.specs.declared.letters.Letter.{Letter}
use Rattle.sdf_lex.specs.declared.pieces.Kind.{Kind}
use Rattle.sdf_lex.specs.declared.pieces.Kind.TheVariants as kind
use Rattle.sdf_lex.specs.Bytes.{class_of, is_unquoted}
use Rattle.sdf_lex.specs.Words.{spelled, Cut, last_cut}
use Rattle.sdf_lex.specs.Pieces.{Piece, blank_piece, line_comment, block_comment, open_comment, word_piece, text_piece, open_text, symbol_piece, mark_piece, bad_piece, spelling, word_tokens, tokens_of, is_bad}
use Rattle.sdf_lex.specs.PieceBridge.{run_of, measured, comment_of, slash_piece, quote_piece, symbol_len, class_piece, other_piece, word_or, first_piece, comment_cut, slash_cut, quote_cut, class_cut, other_cut, word_cut, first_cut, bracket_at, kind_of, bracket_tokens, kind_tokens, IsWithin, is_bad_kind}
use Rattle.sdf_lex.proofs.WordLaws.{word_is, some_bytes, cut_spelled}
use Rattle.sdf_lex.proofs.EndLaws.{end_parts, symbol_size}

abbrev pub cut_of : Piece → Kind × ℕ
cut_of p = (kind_of p, length (spelling p))

same_size : (k : Kind) (m n : ℕ) → m ≡ n → ◌≡◌ {A = Kind × ℕ} (k, m) (k, n)
same_size k m n e = ap (λ (x : ℕ). (k, x)) e

comment_is : (inside : List ℕ) (o : Option ℕ) → end_of 42 47 inside ≡ o → comment_cut inside o ≡ cut_of (comment_of inside o)
comment_is inside None h = same_size kind.Gap (2 + length inside) (length (47 ∷ 42 ∷ inside)) (omega arith)
comment_is inside (Some e) h =
    let r = end_parts 0 e inside h in
    let size : e ≡ 0 + (length r.inside + 2) = r.size in
    let parts : length inside ≡ length r.inside + length (42 ∷ 47 ∷ r.rest) = ap length r.parts ∙ length-append r.inside (42 ∷ 47 ∷ r.rest) in
    let front : length (take (e - 2) inside) ≡ length r.inside = omega (arith, length-take (e - 2) inside) in
    let whole : length (take (e - 2) inside ++ 42 ∷ 47 ∷ []) ≡ length (take (e - 2) inside) + 2 = length-append (take (e - 2) inside) (42 ∷ 47 ∷ []) in
    same_size kind.Gap (2 + e) (length (47 ∷ 42 ∷ (take (e - 2) inside ++ 42 ∷ 47 ∷ []))) (omega arith)

slash_is : (bs : List ℕ) → slash_cut bs ≡ cut_of (slash_piece bs)
slash_is [] = refl
slash_is (c ∷ cs) = elim (cases_Bool (c == 47)) [
  | inl y ↦ rw y (same_size kind.Gap (2 + prefix_len is_inline cs) (length (47 ∷ 47 ∷ take (prefix_len is_inline cs) cs)) (omega (arith, length-prefix_len is_inline cs)))
  | inr n ↦ rw n (comment_is cs (end_of 42 47 cs) refl)
]

quote_is : (bs : List ℕ) → quote_cut bs ≡ cut_of (quote_piece bs)
quote_is bs = elim (cases_Bool (nat_lt (prefix_len is_unquoted bs) (length bs))) [
  | inl y ↦
      let whole : length (take (prefix_len is_unquoted bs) bs ++ 34 ∷ []) ≡ length (take (prefix_len is_unquoted bs) bs) + 1 = length-append (take (prefix_len is_unquoted bs) bs) (34 ∷ []) in
      rw y (same_size kind.Text (2 + prefix_len is_unquoted bs) (length (34 ∷ (take (prefix_len is_unquoted bs) bs ++ 34 ∷ []))) (omega (arith, length-prefix_len is_unquoted bs)))
  | inr n ↦ rw n (same_size kind.UnendedText (1 + length bs) (length (34 ∷ bs)) (omega arith))
]

class_is : (k : ByteClass) (b : ℕ) (bs : List ℕ) → class_cut k (b ∷ bs) ≡ cut_of (class_piece k b bs)
class_is class.Blank b bs = refl
class_is class.Plain b bs = refl
class_is class.Slash b bs = refl
class_is class.Sign b bs = refl
class_is class.Backslash b bs = refl
class_is class.Quote b bs = refl
class_is class.Operator b bs = same_size kind.Symbol (symbol_len (b ∷ bs)) (length (take (symbol_len (b ∷ bs)) (b ∷ bs))) (sym (symbol_size b bs))
class_is class.Mark b bs = refl
class_is class.Bad b bs = refl

other_is : (b : ℕ) (bs : List ℕ) → other_cut b bs ≡ cut_of (other_piece b bs)
other_is b bs = elim (cases_Bool (b == 34)) [
  | inl y ↦ rw y (quote_is bs)
  | inr n ↦ elim (cases_Bool (b == 47)) [
    | inl y ↦ rw (n, y) (slash_is bs)
    | inr m ↦ rw (n, m) (class_is (class_of b) b bs)
  ]
]

word_or_is : (b : ℕ) (bs : List ℕ) (ls : List Letter) → word_cut (measured 0 None ls) (other_cut b bs) ≡ cut_of (word_or ls (other_piece b bs))
word_or_is b bs [] = other_is b bs
word_or_is b bs (l ∷ ls) =
    let some = some_bytes l ls in
    let test : (length (spelled (l ∷ ls)) == 0) ≡ false = ne_eqb (length (spelled (l ∷ ls))) 0 (λ e. absurd (omega arith)) in
    rw (word_is (l ∷ ls), test) refl

pub cut_is : (b : ℕ) (bs : List ℕ) → first_cut (b ∷ bs) ≡ cut_of (first_piece (b ∷ bs))
cut_is b bs = word_or_is b bs (run_of None (b ∷ bs))

-- ---- the tokens

bracket_is : (at : ℕ) (ls : List Letter) (o : Option Cut) → last_cut ls ≡ o → bracket_tokens at (spelled ls) (bracket_at o) ≡ word_tokens at (spelled ls) o
bracket_is at ls None h = refl
bracket_is at ls (Some c) h =
    let whole = cut_spelled ls c h in
    let joined : spelled c.name ++ 91 ∷ spelled c.behind ≡ (spelled c.name ++ 91 ∷ []) ++ spelled c.behind = sym (append_assoc (spelled c.name) (91 ∷ []) (spelled c.behind)) in
    let front : take (length (spelled c.name)) (spelled ls) ≡ spelled c.name = ap (λ xs. take (length (spelled c.name)) xs) whole ∙ take_at (spelled c.name) (91 ∷ spelled c.behind) (length (spelled c.name)) refl in
    let back : drop (length (spelled c.name) + 1) (spelled ls) ≡ spelled c.behind =
    ap (λ xs. drop (length (spelled c.name) + 1) xs) (whole ∙ joined) ∙ drop_at (spelled c.name ++ 91 ∷ []) (spelled c.behind) (length (spelled c.name) + 1) (length-append (spelled c.name) (91 ∷ [])) in
    rw (front, back) refl

text_is : (inside : List ℕ) → take (length (34 ∷ (inside ++ 34 ∷ [])) - 2) (inside ++ 34 ∷ []) ≡ inside
text_is inside =
    let size : length (34 ∷ (inside ++ 34 ∷ [])) - 2 ≡ length inside = (let whole : length (inside ++ 34 ∷ []) ≡ length inside + 1 = length-append inside (34 ∷ []) in omega arith) in
    rw size (take_at inside (34 ∷ []) (length inside) refl)

pub tokens_are : (at : ℕ) (p : Piece) → kind_tokens at (kind_of p) (spelling p) ≡ tokens_of at p
tokens_are at (blank_piece b) = refl
tokens_are at (line_comment inside) = refl
tokens_are at (block_comment inside) = refl
tokens_are at (open_comment inside) = refl
tokens_are at (word_piece ls) = bracket_is at ls (last_cut ls) refl
tokens_are at (text_piece inside) = rw (text_is inside) refl
tokens_are at (open_text inside) = refl
tokens_are at (symbol_piece bytes) = refl
tokens_are at (mark_piece b) = refl
tokens_are at (bad_piece b) = refl

-- ---- what the code is told

bracket_within : (ls : List Letter) (o : Option Cut) → last_cut ls ≡ o → IsWithin (kind.Word (bracket_at o)) (length (spelled ls))
bracket_within ls None h = tt
bracket_within ls (Some c) h =
    let whole : length (spelled ls) ≡ length (spelled c.name) + length (91 ∷ spelled c.behind) = ap length (cut_spelled ls c h) ∙ length-append (spelled c.name) (91 ∷ spelled c.behind) in
    omega arith

pub piece_within : (p : Piece) → IsWithin (kind_of p) (length (spelling p))
piece_within (blank_piece b) = tt
piece_within (line_comment inside) = tt
piece_within (block_comment inside) = tt
piece_within (open_comment inside) = tt
piece_within (word_piece ls) = bracket_within ls (last_cut ls) refl
piece_within (text_piece inside) = tt
piece_within (open_text inside) = tt
piece_within (symbol_piece bytes) = tt
piece_within (mark_piece b) = tt
piece_within (bad_piece b) = tt

pub bad_is : (p : Piece) → is_bad_kind (kind_of p) ≡ is_bad p
bad_is (blank_piece b) = refl
bad_is (line_comment inside) = refl
bad_is (block_comment inside) = refl
bad_is (open_comment inside) = refl
bad_is (word_piece ls) = refl
bad_is (text_piece inside) = refl
bad_is (open_text inside) = refl
bad_is (symbol_piece bytes) = refl
bad_is (mark_piece b) = refl
bad_is (bad_piece b) = refl

pub kind_is : (text : List ℕ) → 0 < length text → (first_cut text).0 ≡ kind_of (first_piece text)
kind_is [] lt = absurd (omega arith)
kind_is (b ∷ bs) lt = ap (λ c. c.0) (cut_is b bs)

pub size_is : (text : List ℕ) → 0 < length text → (first_cut text).1 ≡ length (spelling (first_piece text))
size_is [] lt = absurd (omega arith)
size_is (b ∷ bs) lt = ap (λ c. c.1) (cut_is b bs)
