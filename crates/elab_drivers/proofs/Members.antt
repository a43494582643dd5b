-- Elements of lists.
use Rattle.std.specs.Prelude.{◌≡◌, ℕ, zero, suc, ◌<◌, All, List, [], ◌∷◌, Bool, true, false, filter, length, refl, cond, slice_index_or}
use Rattle.std.specs.List.{AllByRecursion, IsAmong}
use Rattle.std.proofs.Common.{◌∙◌, ap, arith, inl, inr}
use Rattle.elab_laws.proofs.Lists.{In}

pub in-among : {A : Type 0} (x : A) (xs : List A) → In x xs → IsAmong xs x
in-among x [] h = absurd h
in-among x (y ∷ xs) (inl e) = (0, (omega arith, e))
in-among x (y ∷ xs) (inr h) = let r = in-among x xs h in let lt : r.0 < length xs = r.1.0 in (suc r.0, (omega arith, r.1.1))

pub among-in : {A : Type 0} (x : A) (xs : List A) → IsAmong xs x → In x xs
among-in x xs h = at x xs h.0 h.1.0 h.1.1
  where
    at : {A : Type 0} (x : A) (xs : List A) (i : ℕ) → i < length xs → x ≡ slice_index_or xs i x → In x xs
    at x [] i lt e = absurd (omega arith)
    at x (y ∷ xs) zero lt e = inl e
    at x (y ∷ xs) (suc i) lt e = inr (at x xs i (omega arith) e)

pub in-filter : {A : Type 0} (p : A → Bool) (x : A) (xs : List A) → In x xs → p x ≡ true → In x (filter p xs)
in-filter p x [] h e = absurd h
in-filter {A} p x (y ∷ xs) h e = by (p y) refl (λ k. in-filter p x xs k e)
  where
    by : (b : Bool) → p y ≡ b → (In x xs → In x (filter p xs)) → In x (cond b (y ∷ filter p xs) (filter p xs))
    by true t f = elim h [ inl g ↦ inl g | inr k ↦ inr (f k) ]
    by false t f = elim h [ inl g ↦ (let c : p x ≡ false = ap p g ∙ t in cc) | inr k ↦ f k ]

pub all-filter : {A : Type 0} (P : A → Type 0) (p : A → Bool) (xs : List A) → AllByRecursion P xs → AllByRecursion P (filter p xs)
all-filter P p [] h = tt
all-filter {A} P p (x ∷ xs) h = by (p x) (all-filter P p xs h.1)
  where
    by : (b : Bool) → AllByRecursion P (filter p xs) → AllByRecursion P (cond b (x ∷ filter p xs) (filter p xs))
    by true k = (h.0, k)
    by false k = k

-- what passes, of a filtered list
pub from-filter : {A : Type 0} (p : A → Bool) (x : A) (xs : List A) → In x (filter p xs) → In x xs × (p x ≡ true)
from-filter p x [] h = absurd h
from-filter {A} p x (y ∷ xs) h = by (p y) refl h (from-filter p x xs)
  where
    by : (b : Bool) → p y ≡ b → In x (cond b (y ∷ filter p xs) (filter p xs)) → (In x (filter p xs) → In x xs × (p x ≡ true)) → In x (y ∷ xs) × (p x ≡ true)
    by true t (inl g) f = (inl g, ap p g ∙ t)
    by true t (inr k) f = let r = f k in (inr r.0, r.1)
    by false t k f = let r = f k in (inr r.0, r.1)

-- what holds of all, by recursion
pub all-by : {A : Type 0} (P : A → Type 0) (xs : List A) → All P xs → AllByRecursion P xs
all-by P [] h = tt
all-by P (x ∷ xs) h = (h 0 x (omega arith), all-by P xs (λ k d lt. h (suc k) d (omega arith)))
