-- A text's lines, one after another.
use Rattle.std.proofs.Common.{inl, inr, ℕ, suc, ◌≡◌, ◌≢◌, ◌+◌, ◌<◌, ◌≤◌, ◌==◌, List, [], ◌∷◌, ◌++◌, length, take, drop, Bool, nat_lt, refl, sym, ap, ◌∙◌, subst, arith, length-append}
use Rattle.std.specs.Prelude.{Some, None, position}
use Rattle.std.specs.List.{slice_split, onto_first, position_or_len}
use Rattle.std.proofs.lemmas.Bool.{cases_Bool, eqb-true, ltb-true, ltb-false}
use Rattle.std.proofs.lemmas.List.{append_assoc, drop-drop}
use Rattle.std.proofs.lemmas.List.Sums.{fails_before_first}
use Rattle.std.proofs.lemmas.List.Splits.{slice_split_none, slice_split_first}
use Rattle.stim_read.specs.Lines.{Line, without_return, placed}

without-return-of : (front : List ℕ) → without_return (front ++ 13 ∷ []) ≡ front
without-return-of [] = refl
without-return-of (b ∷ []) = refl
without-return-of (b ∷ c ∷ bs) = ap (λ x. b ∷ x) (without-return-of (c ∷ bs))

pub return_dropped : (row front : List ℕ) → row ≡ front ++ 13 ∷ [] → front ≡ without_return row
return_dropped row front e = sym (ap without_return e ∙ without-return-of front)

without-return-none : (row : List ℕ) → ((front : List ℕ) → row ≢ front ++ 13 ∷ []) → without_return row ≡ row
without-return-none [] h = refl
without-return-none (b ∷ []) h = elim (cases_Bool (b == 13)) [
  | inl y ↦ absurd (h [] (ap (λ x. x ∷ []) (eqb-true b 13 y)))
  | inr n ↦ rw n refl
]
without-return-none (b ∷ c ∷ bs) h = ap (λ x. b ∷ x) (without-return-none (c ∷ bs) (λ front e. h (b ∷ front) (ap (λ x. b ∷ x) e)))

pub no_return : (row : List ℕ) → ((front : List ℕ) → row ≢ front ++ 13 ∷ []) → row ≡ without_return row
no_return row h = sym (without-return-none row h)

pub shorter : (row front : List ℕ) → row ≡ front ++ 13 ∷ [] → length front ≤ length row
shorter row front e = let l = ap length e in let k = length-append front (13 ∷ []) in omega (arith, l, k)

-- a text has a first row
first-row : (p : ℕ → Bool) (xs : List ℕ) → (y : List ℕ) × (ys : List (List ℕ)) × (slice_split p xs ≡ y ∷ ys)
first-row p [] = ([], [], refl)
first-row p (x ∷ xs) = elim (cases_Bool (p x)) [
  | inl y ↦ ([], slice_split p xs, rw y refl)
  | inr n ↦
      let r = first-row p xs in
      (x ∷ r.0, r.1, rw n (ap (onto_first x) r.2))
]

abbrev pub is_feed : ℕ → Bool
is_feed b = b == 10

place-some : (xs : List ℕ) (n : ℕ) → Some n ≡ position is_feed xs → (n ≡ position_or_len is_feed xs) × (n < length xs)
place-some xs n h = elim (cases_Bool (nat_lt (position_or_len is_feed xs) (length xs))) [
  | inl y ↦
      let e : Some n ≡ Some (position_or_len is_feed xs) = rw y at h in
      let same : n ≡ position_or_len is_feed xs = cc in
      (same, rw same (ltb-true (position_or_len is_feed xs) (length xs) y))
  | inr off ↦ let e : Some n ≡ None = rw off at h in absurd (cc)
]

place-none : (xs : List ℕ) → None ≡ position is_feed xs → length xs ≤ position_or_len is_feed xs
place-none xs h = elim (cases_Bool (nat_lt (position_or_len is_feed xs) (length xs))) [
  | inl y ↦ let e : None ≡ Some (position_or_len is_feed xs) = rw y at h in absurd (cc)
  | inr off ↦ ltb-false (position_or_len is_feed xs) (length xs) off
]

-- a text without LF is one row
pub last-row : (xs : List ℕ) → None ≡ position is_feed xs → slice_split is_feed xs ≡ xs ∷ []
last-row xs h =
    slice_split_none is_feed xs
    (λ k d l. fails_before_first is_feed xs k d (let far = place-none xs h in omega arith))

pub row-split : (xs : List ℕ) (n : ℕ) → Some n ≡ position is_feed xs → slice_split is_feed xs ≡ take n xs ∷ slice_split is_feed (drop (n + 1) xs)
row-split xs n h =
    let p = place-some xs n h in
    rw p.0 (slice_split_first is_feed xs 0 (subst (λ k. k < length xs) p.0 p.1))

placed-step : (start : ℕ) (row : List ℕ) (rows : List (List ℕ)) (next : List ℕ) (more : List (List ℕ)) → rows ≡ next ∷ more
    → placed start (row ∷ rows) ≡ record { start = start; bytes = without_return row } ∷ placed (suc (start + length row)) rows
placed-step start row rows next more e = rw e refl

-- the lines of what is left, from the line that begins it
pub one-line : (start size : ℕ) (rest row : List ℕ) → Some size ≡ position is_feed rest → row ≡ take size rest → length row ≡ size
    → placed start (slice_split is_feed rest) ≡ record { start = start; bytes = without_return row } ∷ placed (start + (size + 1)) (slice_split is_feed (drop (size + 1) rest))
one-line start size rest row h is long =
    let r = first-row is_feed (drop (size + 1) rest) in
    let same : suc (start + length row) ≡ start + (size + 1) = omega (arith, long) in
    ap (placed start) (row-split rest size h ∙ ap (λ x. x ∷ slice_split is_feed (drop (size + 1) rest)) (sym is))
    ∙ placed-step start row (slice_split is_feed (drop (size + 1) rest)) r.0 r.1 r.2
    ∙ ap (λ k. record { start = start; bytes = without_return row } ∷ placed k (slice_split is_feed (drop (size + 1) rest))) same

pub next-line : (all so_far : List Line) (start size : ℕ) (text row : List ℕ) → Some size ≡ position is_feed (drop start text) → row ≡ take size (drop start text) → length row ≡ size
    → all ≡ so_far ++ placed start (slice_split is_feed (drop start text))
    → all ≡ (so_far ++ record { start = start; bytes = without_return row } ∷ []) ++ placed (start + (size + 1)) (slice_split is_feed (drop (start + (size + 1)) text))
next-line all so_far start size text row h is long e =
    let rest : List Line = placed (start + (size + 1)) (slice_split is_feed (drop (start + (size + 1)) text)) in
    e ∙ ap (λ x. so_far ++ x) (one-line start size (drop start text) row h is long ∙ ap (λ x. record { start = start; bytes = without_return row } ∷ placed (start + (size + 1)) (slice_split is_feed x)) (drop-drop (size + 1) start text))
    ∙ sym (append_assoc so_far (record { start = start; bytes = without_return row } ∷ []) rest)

pub last-line : (all so_far : List Line) (start : ℕ) (text : List ℕ) → None ≡ position is_feed (drop start text)
    → all ≡ so_far ++ placed start (slice_split is_feed (drop start text)) → so_far ++ record { start = start; bytes = drop start text } ∷ [] ≡ all
last-line all so_far start text h e = sym (e ∙ ap (λ x. so_far ++ placed start x) (last-row (drop start text) h))
