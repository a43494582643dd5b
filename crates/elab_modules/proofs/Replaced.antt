-- What stands at the places of a list when one of its elements gives place to another.
use Rattle.std.specs.Prelude.{◌≡◌, ◌⊎◌, ℕ, zero, suc, ◌<◌, List, [], ◌∷◌, Some, length, slice_get, refl}
use Rattle.std.proofs.Common.{sym, ap, arith, inl, inr, set}

pub set-there : {A : Type 0} (xs : List A) (i : ℕ) (x : A) → i < length xs → slice_get (set xs i x) i ≡ Some x
set-there [] i x lt = absurd (omega arith)
set-there (y ∷ xs) zero x lt = refl
set-there (y ∷ xs) (suc i) x lt = set-there xs i x (omega arith)

-- what stands there stood there before, or is the other
pub set-either : {A : Type 0} (xs : List A) (i j : ℕ) (x z : A) → slice_get (set xs i x) j ≡ Some z → ((j ≡ i) × (z ≡ x)) ⊎ (slice_get xs j ≡ Some z)
set-either [] i j x z e = inr e
set-either (y ∷ xs) zero zero x z e = inl (refl, (let g : x ≡ z = cc in sym g))
set-either (y ∷ xs) zero (suc j) x z e = inr e
set-either (y ∷ xs) (suc i) zero x z e = inr e
set-either (y ∷ xs) (suc i) (suc j) x z e = elim (set-either xs i j x z e) [ inl h ↦ inl (ap suc h.0, h.1) | inr h ↦ inr h ]

-- what stood there stands there still, or is what gave place
pub set-keeps : {A : Type 0} (xs : List A) (i j : ℕ) (x z : A) → slice_get xs j ≡ Some z → (j ≡ i) ⊎ (slice_get (set xs i x) j ≡ Some z)
set-keeps [] i j x z e = inr e
set-keeps (y ∷ xs) zero zero x z e = inl refl
set-keeps (y ∷ xs) zero (suc j) x z e = inr e
set-keeps (y ∷ xs) (suc i) zero x z e = inr e
set-keeps (y ∷ xs) (suc i) (suc j) x z e = elim (set-keeps xs i j x z e) [ inl h ↦ inl (ap suc h) | inr h ↦ inr h ]
