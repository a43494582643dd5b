-- The words of a text from a place on, one after another.
use Rattle.std.proofs.Common.{◌≡◌, ℕ, suc, ◌+◌, ◌<◌, Bool, true, List, [], ◌∷◌, length, take, drop, refl, sym, ap, ◌∙◌, arith, inl, inr, nat_lt}
use Rattle.std.specs.Prelude.{not, filter}
use Rattle.std.specs.List.{prefix_len, slice_split, onto_first}
use Rattle.std.proofs.lemmas.Bool.{cases_Bool, lt-ltb}
use Rattle.std.proofs.lemmas.List.Folds.{length-prefix_len}
use Rattle.vcd_form.specs.Words.{is_blank, placed, words_from, Word}

one_more : (n : ℕ) → 1 + n ≡ suc n
one_more n = omega arith

abbrev is_inner : ℕ → Bool
is_inner b = not (is_blank b)

abbrev has_bytes : Word → Bool
has_bytes w = nat_lt 0 (length w.bytes)

abbrev kept : ℕ → List (List ℕ) → List Word
kept start rows = filter has_bytes (placed start rows)

-- ---- blanks

empty_row : (start : ℕ) (rows : List (List ℕ)) → kept start ([] ∷ rows) ≡ kept (suc start) rows
empty_row start rows = let e : start + 0 ≡ start = omega arith in ap (λ n. kept (suc n) rows) e

blank_row : (start b : ℕ) (bs : List ℕ) → is_blank b ≡ true → words_from start (b ∷ bs) ≡ words_from (suc start) bs
unfolding words_from
blank_row start b bs does = rw does (empty_row start (slice_split is_blank bs))

pub blanks_left : (bs : List ℕ) (start : ℕ) → words_from start bs ≡ words_from (start + prefix_len is_blank bs) (drop (prefix_len is_blank bs) bs)
blanks_left [] start = let e : start ≡ start + 0 = omega arith in ap (λ n. words_from n []) e
blanks_left (b ∷ bs) start = elim (cases_Bool (is_blank b)) [
  | inl does ↦
      let e : suc start + prefix_len is_blank bs ≡ start + suc (prefix_len is_blank bs) = omega arith in
      rw (does, one_more (prefix_len is_blank bs)) (blank_row start b bs does ∙ (blanks_left bs (suc start) ∙ ap (λ n. words_from n (drop (prefix_len is_blank bs) bs)) e))
  | inr none ↦ let e : start ≡ start + 0 = omega arith in rw none (ap (λ n. words_from n (b ∷ bs)) e)
]

-- ---- a word

abbrev rows_behind : List ℕ → List (List ℕ)
rows_behind [] = []
rows_behind (b ∷ bs) = slice_split is_blank bs

abbrev Blank : List ℕ → Type 0
Blank [] = Unit {0}
Blank (b ∷ bs) = is_blank b ≡ true

first_row : (bs : List ℕ) → slice_split is_blank bs ≡ take (prefix_len is_inner bs) bs ∷ rows_behind (drop (prefix_len is_inner bs) bs)
first_row [] = refl
first_row (b ∷ bs) = elim (cases_Bool (is_blank b)) [
  | inl does ↦ rw does refl
  | inr none ↦ rw (none, one_more (prefix_len is_inner bs)) (ap (onto_first b) (first_row bs))
]

stops : (bs : List ℕ) → Blank (drop (prefix_len is_inner bs) bs)
stops [] = tt
stops (b ∷ bs) = elim (cases_Bool (is_blank b)) [
  | inl does ↦ rw does does
  | inr none ↦ rw (none, one_more (prefix_len is_inner bs)) (stops bs)
]

rows_left : (ds : List ℕ) (start : ℕ) → Blank ds → kept (suc start) (rows_behind ds) ≡ words_from start ds
unfolding words_from
rows_left [] start h = refl
rows_left (b ∷ bs) start h = sym (blank_row start b bs h)

pub word_first : (bs : List ℕ) (start : ℕ) → 0 < prefix_len is_inner bs
    → words_from start bs ≡ record { byte = start; bytes = take (prefix_len is_inner bs) bs } ∷ words_from (start + prefix_len is_inner bs) (drop (prefix_len is_inner bs) bs)
unfolding words_from
word_first bs start some =
    let p = prefix_len is_inner bs in
    let n : length (take p bs) ≡ p = length-prefix_len is_inner bs in
    let has : nat_lt 0 (length (take p bs)) ≡ true = lt-ltb 0 (length (take p bs)) (omega arith) in
    let rest : kept (suc (start + length (take p bs))) (rows_behind (drop p bs)) ≡ words_from (start + p) (drop p bs) =
    ap (λ m. kept (suc (start + m)) (rows_behind (drop p bs))) n ∙ rows_left (drop p bs) (start + p) (stops bs)
    in
    ap (kept start) (first_row bs) ∙ rw has (ap (λ (ws : List Word). record { byte = start; bytes = take p bs } ∷ ws) rest)

pub nothing_left : (bs : List ℕ) → prefix_len is_inner (drop (prefix_len is_blank bs) bs) ≡ 0 → drop (prefix_len is_blank bs) bs ≡ []
nothing_left [] h = refl
nothing_left (b ∷ bs) h = elim (cases_Bool (is_blank b)) [
  | inl does ↦ rw (does, one_more (prefix_len is_blank bs)) (nothing_left bs (rw (does, one_more (prefix_len is_blank bs)) at h))
  | inr none ↦ absurd (let e : 1 + prefix_len is_inner bs ≡ 0 = rw (none, none) at h in omega (arith, e))
]

pub none_left : (bs : List ℕ) (start : ℕ) → prefix_len is_inner (drop (prefix_len is_blank bs) bs) ≡ 0 → words_from start (drop (prefix_len is_blank bs) bs) ≡ []
unfolding words_from
none_left bs start h = rw (nothing_left bs h) refl
