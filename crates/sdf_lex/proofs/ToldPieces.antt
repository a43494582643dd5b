-- A piece that has its form is the one that is found, or is shorter.
use Rattle.std.proofs.Common.{◌≡◌, ℕ, ◌+◌, ◌-◌, ◌<◌, List, [], ◌∷◌, ◌++◌, length, take, true, false, refl, sym, ap, ◌∙◌, subst, arith, ◌⊎◌, inl, inr}
use Rattle.std.specs.Prelude.{None, nat_lt}
use Rattle.std.specs.List.{list_all, prefix_len}
use Rattle.std.proofs.lemmas.Bool.{not-true, lt-ltb, le-ltb}
use Rattle.std.proofs.lemmas.List.{append-nil, append_assoc, take_at, length-append}
use Rattle.vl_pieces.specs.Bytes.{is_inline}
use Rattle.vl_pieces.specs.Ends.{end_of}
use Rattle.sdf_lex.specs.declared.bytes.ByteClass.{ByteClass}
use Rattle.sdf_lex.specs.declared.bytes.ByteClass.TheVariants as class
use Rattle.sdf_lex.specs.declared.letters.Letter.{Letter}
use Rattle.sdf_lex.specs.declared.letters.Letter.TheVariants.{Plain, Escaped}
use Rattle.sdf_lex.specs.Bytes.{class_of, is_unquoted, begins_number, begins_good}
use Rattle.sdf_lex.specs.Words.{spelled}
use Rattle.sdf_lex.specs.Pieces.{Piece, blank_piece, line_comment, block_comment, open_comment, word_piece, text_piece, open_text, symbol_piece, mark_piece, bad_piece, spelling, is_mark, HasForm}
use Rattle.sdf_lex.specs.PieceBridge.{escaped_letter, run_of, symbol_len, first_piece}
use Rattle.sdf_lex.proofs.RunLaws.{plain_end, escaped_end}
use Rattle.sdf_lex.proofs.WordLaws.{run_front, spelled-append, some_bytes}
use Rattle.sdf_lex.proofs.EndLaws.{run_on, run_to, run_all, end_here, symbol_told}
use Rattle.sdf_lex.proofs.FirstPieces.{backslash_class, backslash_is, false_true, single_first, blank_single, operator_single, mark_single, bad_single, sign_single}

abbrev pub Told : Piece → Piece → Type 0
Told q p = (length (spelling q) < length (spelling p)) ⊎ (q ≡ p)

told_by : (q p first : Piece) → first ≡ p → Told q p → Told q first
told_by q p first e t = subst (λ x. Told q x) (sym e) t

-- ---- single bytes

backslash_told : (after : List ℕ) → begins_good after ≡ false → first_piece (92 ∷ after) ≡ mark_piece 92
backslash_told after h = rw (escaped_end None after (no_letter after h), backslash_class) refl
  where
    no_letter : (xs : List ℕ) → begins_good xs ≡ false → escaped_letter xs ≡ None
    no_letter [] k = refl
    no_letter (c ∷ cs) k = rw k refl

mark_told : (b : ℕ) (after : List ℕ) (k : ByteClass) → class_of b ≡ k → is_mark k after ≡ true → first_piece (b ∷ after) ≡ mark_piece b
mark_told b after class.Blank e h = absurd (false_true h)
mark_told b after class.Plain e h = absurd (false_true h)
mark_told b after class.Slash e h = absurd (false_true h)
mark_told b after class.Sign e h = single_first b after class.Sign e (sign_single after (not-true (begins_number after) h))
mark_told b after class.Backslash e h = subst (λ x. first_piece (x ∷ after) ≡ mark_piece x) (sym (backslash_is b e)) (backslash_told after (not-true (begins_good after) h))
mark_told b after class.Quote e h = absurd (false_true h)
mark_told b after class.Operator e h = absurd (false_true h)
mark_told b after class.Mark e h = single_first b after class.Mark e (mark_single after)
mark_told b after class.Bad e h = absurd (false_true h)

-- ---- comments and texts

longer : (xs more : List ℕ) → (length xs < length (xs ++ more)) ⊎ (more ≡ [])
longer xs [] = inr refl
longer xs (m ∷ ms) = inl (omega (arith, length-append xs (m ∷ ms)))

line_told : (inside after : List ℕ) → list_all is_inline inside ≡ true → Told (line_comment inside) (first_piece (47 ∷ 47 ∷ (inside ++ after)))
unfolding class_of
line_told inside after h =
    let r = run_on is_inline inside after h in
    rw r.1 (elim (longer inside r.0) [
      | inl lt ↦ inl (omega arith)
      | inr e ↦ inr (rw e (ap (λ xs. line_comment xs) (sym (append-nil inside))))
    ])

block_told : (inside after : List ℕ) → end_of 42 47 (inside ++ 42 ∷ []) ≡ None → first_piece (47 ∷ 42 ∷ ((inside ++ 42 ∷ 47 ∷ []) ++ after)) ≡ block_comment inside
unfolding class_of
block_told inside after h =
    let joined : (inside ++ 42 ∷ 47 ∷ []) ++ after ≡ inside ++ 42 ∷ 47 ∷ after = append_assoc inside (42 ∷ 47 ∷ []) after in
    let size : (0 + (length inside + 2)) - 2 ≡ length inside = omega arith in
    rw (joined, end_here 0 inside after h, size, take_at inside (42 ∷ 47 ∷ after) (length inside) refl) refl

open_told : (inside : List ℕ) → end_of 42 47 inside ≡ None → first_piece (47 ∷ 42 ∷ (inside ++ [])) ≡ open_comment inside
unfolding class_of
open_told inside h = rw (append-nil inside, h) refl

-- a quote begins no word
quote_alone : (xs : List ℕ) → run_of None (34 ∷ xs) ≡ []
unfolding class_of
quote_alone xs = plain_end None 34 xs refl refl

text_told : (inside after : List ℕ) → list_all is_unquoted inside ≡ true → first_piece (34 ∷ ((inside ++ 34 ∷ []) ++ after)) ≡ text_piece inside
text_told inside after h =
    let joined : (inside ++ 34 ∷ []) ++ after ≡ inside ++ 34 ∷ after = append_assoc inside (34 ∷ []) after in
    let run : prefix_len is_unquoted (inside ++ 34 ∷ after) ≡ length inside = run_to is_unquoted inside 34 after h refl in
    let less : nat_lt (length inside) (length (inside ++ 34 ∷ after)) ≡ true = lt-ltb (length inside) (length (inside ++ 34 ∷ after)) (omega (arith, length-append inside (34 ∷ after))) in
    quoted (inside ++ 34 ∷ after) joined run less (take_at inside (34 ∷ after) (length inside) refl)
  where
    quoted : (xs : List ℕ) → (inside ++ 34 ∷ []) ++ after ≡ xs → prefix_len is_unquoted xs ≡ length inside → nat_lt (length inside) (length xs) ≡ true → take (length inside) xs ≡ inside → first_piece (34 ∷ ((inside ++ 34 ∷ []) ++ after)) ≡ text_piece inside
    quoted xs j r l t = rw (j, quote_alone xs, r, l, t) refl

unended_told : (inside : List ℕ) → list_all is_unquoted inside ≡ true → first_piece (34 ∷ (inside ++ [])) ≡ open_text inside
unended_told inside h = rw (quote_alone (inside ++ []), append-nil inside, run_all is_unquoted inside h, le-ltb (length inside) (length inside) (omega arith)) refl

-- ---- words

word_told : (l : Letter) (ls : List Letter) (b : ℕ) (bs : List ℕ) → ((more : List Letter) × (run_of None (b ∷ bs) ≡ (l ∷ ls) ++ more)) → Told (word_piece (l ∷ ls)) (first_piece (b ∷ bs))
word_told l ls b bs r = rw r.1 (by r.0)
  where
    by : (more : List Letter) → Told (word_piece (l ∷ ls)) (word_piece ((l ∷ ls) ++ more))
    by [] = inr (ap (λ x. word_piece x) (sym (append-nil (l ∷ ls))))
    by (m ∷ ms) =
        let size : length (spelled ((l ∷ ls) ++ m ∷ ms)) ≡ length (spelled (l ∷ ls)) + length (spelled (m ∷ ms)) = ap length (spelled-append (l ∷ ls) (m ∷ ms)) ∙ length-append (spelled (l ∷ ls)) (spelled (m ∷ ms)) in
        let some = some_bytes m ms in
        inl (omega arith)

pub told : (q : Piece) (after : List ℕ) → HasForm q after → Told q (first_piece (spelling q ++ after))
told (blank_piece b) after f = inr (sym (single_first b after class.Blank f (blank_single after)))
told (line_comment inside) after f = line_told inside after f
told (block_comment inside) after f = inr (sym (block_told inside after f))
told (open_comment inside) after f = subst (λ xs. Told (open_comment inside) (first_piece (47 ∷ 42 ∷ (inside ++ xs)))) (sym f.1) (inr (sym (open_told inside f.0)))
told (word_piece []) after f = absurd f
told (word_piece (Plain b ∷ ls)) after f = word_told (Plain b) ls b (spelled ls ++ after) (run_front None (Plain b ∷ ls) after f)
told (word_piece (Escaped b ∷ ls)) after f = word_told (Escaped b) ls 92 (b ∷ spelled ls ++ after) (run_front None (Escaped b ∷ ls) after f)
told (text_piece inside) after f = inr (sym (text_told inside after f))
told (open_text inside) after f = subst (λ xs. Told (open_text inside) (first_piece (34 ∷ (inside ++ xs)))) (sym f.1) (inr (sym (unended_told inside f.0)))
told (symbol_piece []) after f = absurd f
told (symbol_piece (b ∷ bs)) after f =
    told_by (symbol_piece (b ∷ bs)) (symbol_piece (take (symbol_len (b ∷ bs ++ after)) (b ∷ bs ++ after))) (first_piece (b ∷ bs ++ after)) (single_first b (bs ++ after) class.Operator f.0 (operator_single (bs ++ after)))
    (elim (symbol_told b bs after f.1) [
      | inl lt ↦ inl lt
      | inr e ↦ inr (ap (λ x. symbol_piece x) e)
    ])
told (mark_piece b) after f = inr (sym (mark_told b after (class_of b) refl f))
told (bad_piece b) after f = inr (sym (single_first b after class.Bad f (bad_single after)))
