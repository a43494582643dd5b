-- Parts of slices, as patterns and indices give them.
use Rattle.std.proofs.Common.{ℕ, suc, ◌≡◌, ◌-◌, ◌≤◌, List, [], ◌∷◌, length, take, drop, refl, sym, ap, ◌∙◌, arith}
use Rattle.std.specs.Prelude.{slice_index_or}
use Rattle.std.proofs.lemmas.List.{take_all, length-drop}

pub rest-of : {A : Type 0} (xs : List A) → take (length xs - 1) (drop 1 xs) ≡ drop 1 xs
rest-of [] = refl
rest-of (x ∷ xs) = let n : suc (length xs) - 1 ≡ length xs = omega arith in ap (λ k. take k xs) n ∙ take_all (length xs) xs (omega arith)

-- the first one, and those behind it
pub first-and_rest : {A : Type 0} (xs : List A) (x : A) → 1 ≤ length xs → x ≡ slice_index_or xs 0 x → xs ≡ x ∷ take (length xs - 1) (drop 1 xs)
first-and_rest [] x le e = absurd (omega arith)
first-and_rest (y ∷ xs) x le e = ap (λ z. z ∷ xs) (sym e) ∙ ap (λ z. x ∷ z) (sym (rest-of (y ∷ xs)))

pub first-at : {A : Type 0} (xs : List A) (d : A) → 1 ≤ length xs → xs ≡ slice_index_or xs 0 d ∷ take (length xs - 1) (drop 1 xs)
first-at [] d le = absurd (omega arith)
first-at (y ∷ xs) d le = ap (λ z. y ∷ z) (sym (rest-of (y ∷ xs)))

-- all from a place on
pub from-place : {A : Type 0} (n : ℕ) (xs : List A) → take (length xs - n) (drop n xs) ≡ drop n xs
from-place n xs = take_all (length xs - n) (drop n xs) (let l = length-drop n xs in omega (arith, l))

pub empty-one : {A : Type 0} (xs : List A) → length xs ≤ 0 → xs ≡ []
empty-one [] h = refl
empty-one (x ∷ xs) h = absurd (omega arith)
