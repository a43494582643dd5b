-- Rows as parts of lists that grow, and lists of places.
use Rattle.std.specs.Prelude.{◌≡◌, ℕ, zero, suc, ◌+◌, ◌<◌, ◌≤◌, List, [], ◌∷◌, ◌++◌, Some, length, take, drop, slice_get, refl}
use Rattle.std.proofs.Common.{sym, ◌∙◌, ap, arith, set}
use Rattle.std.proofs.lemmas.List.{drop-append-le, take-append-le, length-drop, take_all}
use Rattle.elab_nets.specs.Rows.{part_of}

-- what stood in a list stands in it when it has grown
pub get-grown : {A : Type 0} (xs ys : List A) (i : ℕ) (x : A) → slice_get xs i ≡ Some x → slice_get (xs ++ ys) i ≡ Some x
get-grown [] ys i x e = cc
get-grown (z ∷ xs) ys zero x e = e
get-grown (z ∷ xs) ys (suc i) x e = get-grown xs ys i x e

pub get-behind : {A : Type 0} (xs ys : List A) (i : ℕ) → slice_get (xs ++ ys) (length xs + i) ≡ slice_get ys i
get-behind [] ys i = let e : 0 + i ≡ i = omega arith in ap (slice_get ys) e
get-behind (x ∷ xs) ys i = let e : suc (length xs) + i ≡ suc (length xs + i) = omega arith in ap (slice_get (x ∷ (xs ++ ys))) e ∙ get-behind xs ys i

pub get-last : {A : Type 0} (xs : List A) (x : A) → slice_get (xs ++ x ∷ []) (length xs) ≡ Some x
get-last xs x = let e : length xs ≡ length xs + 0 = omega arith in ap (slice_get (xs ++ x ∷ [])) e ∙ get-behind xs (x ∷ []) 0

pub at-end : (places : List ℕ) (x n : ℕ) → length places ≡ n → slice_get (places ++ x ∷ []) n ≡ Some x
at-end places x n e = ap (slice_get (places ++ x ∷ [])) (sym e) ∙ get-last places x

pub part-grown : {A : Type 0} (xs ys : List A) (start count : ℕ) → start + count ≤ length xs → part_of (xs ++ ys) start count ≡ part_of xs start count
part-grown xs ys start count le =
    let a : start ≤ length xs = omega arith in
    let l = length-drop start xs in
    let b : count ≤ length (drop start xs) = omega arith in
    ap (take count) (drop-append-le start xs ys a) ∙ take-append-le count (drop start xs) ys b

pub part-behind : {A : Type 0} (xs ys : List A) (count : ℕ) → length ys ≡ count → part_of (xs ++ ys) (length xs) count ≡ ys
part-behind xs ys count e = ap (take count) (behind xs ys) ∙ take_all count ys (omega arith)
  where
    behind : {A : Type 0} (xs ys : List A) → drop (length xs) (xs ++ ys) ≡ ys
    behind [] ys = refl
    behind (x ∷ xs) ys = behind xs ys

-- a place is written
pub get-written : {A : Type 0} (xs : List A) (i : ℕ) (y : A) → i < length xs → slice_get (set xs i y) i ≡ Some y
get-written [] i y lt = absurd (omega arith)
get-written (x ∷ xs) zero y lt = refl
get-written (x ∷ xs) (suc i) y lt = get-written xs i y (omega arith)

pub get-other : {A : Type 0} (xs : List A) (i j : ℕ) (y : A) → (j ≡ i → ⊥) → slice_get (set xs i y) j ≡ slice_get xs j
get-other [] i j y n = refl
get-other (x ∷ xs) zero zero y n = absurd (n refl)
get-other (x ∷ xs) zero (suc j) y n = refl
get-other (x ∷ xs) (suc i) zero y n = refl
get-other (x ∷ xs) (suc i) (suc j) y n = get-other xs i j y (λ e. n (ap suc e))
