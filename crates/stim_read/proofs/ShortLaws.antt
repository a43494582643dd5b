-- Lines stand inside the text, and words are no longer than the line.
use Rattle.std.proofs.Common.{inl, inr, ℕ, suc, ◌≡◌, ◌+◌, ◌<◌, ◌≤◌, ◌^◌, ◌==◌, List, [], ◌∷◌, ◌++◌, length, map, Bool, sym, subst, arith}
use Rattle.std.specs.Prelude.{All, nat_lt}
use Rattle.std.specs.List.{slice_split, onto_first}
use Rattle.std.specs.Borrow.{Bor}
use Rattle.std.proofs.lemmas.Bool.{cases_Bool}
use Rattle.std.proofs.lemmas.List.Elements.{All-nil, All-cons, All-head, All-tail, All-weaker, All-filter, All-push}
use Rattle.stim_read.specs.declared.lines.Line as code_line
use Rattle.stim_read.specs.Lines.{without_return, is_blank, words}

longer-first : (x : ℕ) (m : ℕ) (rows : List (List ℕ)) → All (λ r. length r ≤ m) rows → All (λ r. length r ≤ m + 1) (onto_first x rows)
longer-first x m [] h = All-cons (λ r. length r ≤ m + 1) (x ∷ []) [] (omega arith) (All-nil (λ r. length r ≤ m + 1))
longer-first x m (r ∷ rs) h =
    let front = All-head (λ r. length r ≤ m) r rs h in
    All-cons (λ r. length r ≤ m + 1) (x ∷ r) rs (omega (arith, front)) (All-weaker (λ r. length r ≤ m) (λ r. length r ≤ m + 1) (λ y l. omega (arith, l)) rs (All-tail (λ r. length r ≤ m) r rs h))

rows-short : (p : ℕ → Bool) (xs : List ℕ) → All (λ r. length r ≤ length xs) (slice_split p xs)
rows-short p [] = All-cons (λ r. length r ≤ 0) [] [] (omega arith) (All-nil (λ r. length r ≤ 0))
rows-short p (x ∷ xs) = elim (cases_Bool (p x)) [
  | inl y ↦ rw y (All-cons (λ r. length r ≤ suc (length xs)) [] (slice_split p xs) (omega arith) (All-weaker (λ r. length r ≤ length xs) (λ r. length r ≤ suc (length xs)) (λ z l. omega (arith, l)) (slice_split p xs) (rows-short p xs)))
  | inr n ↦ rw n (All-weaker (λ r. length r ≤ length xs + 1) (λ r. length r ≤ suc (length xs)) (λ z l. omega (arith, l)) (onto_first x (slice_split p xs)) (longer-first x (length xs) (slice_split p xs) (rows-short p xs)))
]

pub return-short : (row : List ℕ) → length (without_return row) ≤ length row
return-short [] = omega arith
return-short (b ∷ []) = elim (cases_Bool (b == 13)) [ inl y ↦ rw y (omega arith) | inr n ↦ rw n (omega arith) ]
return-short (b ∷ c ∷ bs) = let l = return-short (c ∷ bs) in omega (arith, l)

words-short : (line : List ℕ) → All (λ w. length w ≤ length line) (words line)
unfolding words
words-short line = All-filter (λ w. nat_lt 0 (length w)) (λ w. length w ≤ length line) (slice_split is_blank line) (rows-short is_blank line)

all-unmapped : {A B : Type 0} (P : B → Type 0) (f : A → B) (xs : List A) → All P (map f xs) → All (λ x. P (f x)) xs
all-unmapped P f [] h = All-nil (λ x. P (f x))
all-unmapped P f (x ∷ xs) h = All-cons (λ x. P (f x)) x xs (All-head P (f x) (map f xs) h) (all-unmapped P f xs (All-tail P (f x) (map f xs) h))

pub read-short : (line : List ℕ) (read : List (Bor (List ℕ))) → map (λ w. w.now) read ≡ words line → length line ≤ 2 ^ 28 → All (λ w. length w.now < 2 ^ 30) read
read-short line read e le =
    let all : All (λ w. length w ≤ length line) (map (λ w. w.now) read) = subst (λ ws. All (λ w. length w ≤ length line) ws) (sym e) (words-short line) in
    All-weaker (λ w. length w.now ≤ length line) (λ w. length w.now < 2 ^ 30) (λ x l. omega (arith, l)) read (all-unmapped (λ w. length w ≤ length line) (λ w. w.now) read all)

-- a line more is inside the text
pub inside-next : (n : ℕ) (new old : List code_line.Line) (l : code_line.Line) → new ≡ old ++ l ∷ [] → All (λ x. x.start + length x.bytes.now ≤ n) old → l.start + length l.bytes.now ≤ n → All (λ x. x.start + length x.bytes.now ≤ n) new
inside-next n new old l e h in' = subst (λ ls. All (λ x. x.start + length x.bytes.now ≤ n) ls) (sym e) (All-push (λ x. x.start + length x.bytes.now ≤ n) old l h in')

pub inside-none : (n : ℕ) (made : List code_line.Line) → made ≡ [] → All (λ x. x.start + length x.bytes.now ≤ n) made
inside-none n made e = subst (λ ls. All (λ x. x.start + length x.bytes.now ≤ n) ls) (sym e) (All-nil (λ x. x.start + length x.bytes.now ≤ n))
