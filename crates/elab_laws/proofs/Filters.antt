-- Lists without what a test refuses.
use Rattle.std.specs.Prelude.{◌≡◌, ℕ, ◌+◌, List, [], ◌∷◌, ◌++◌, Bool, true, false, filter, flat_map, map, refl, if◌then◌else◌}
use Rattle.std.specs.List.{AllByRecursion, enumerate_from}
use Rattle.std.proofs.Common.{◌∙◌, ap, inl, inr}
use Rattle.std.proofs.lemmas.List.Elements.{filter-append}
use Rattle.elab_laws.proofs.Lists.{In, Pairwise}

pub all-filter : {A : Type 0} (P : A → Type 0) (p : A → Bool) (xs : List A) → AllByRecursion P xs → AllByRecursion P (filter p xs)
all-filter P p [] h = tt
all-filter {A} P p (x ∷ xs) h = by (p x) (all-filter P p xs h.1)
  where
    by : (b : Bool) → AllByRecursion P (filter p xs) → AllByRecursion P (if b then x ∷ filter p xs else filter p xs)
    by true k = (h.0, k)
    by false k = k

pub all-passed : {A : Type 0} (p : A → Bool) (xs : List A) → AllByRecursion (λ x. p x ≡ true) (filter p xs)
all-passed p [] = tt
all-passed {A} p (x ∷ xs) = by (p x) refl (all-passed p xs)
  where
    Passes : A → Type 0
    Passes x = p x ≡ true

    by : (b : Bool) → p x ≡ b → AllByRecursion Passes (filter p xs) → AllByRecursion Passes (if b then x ∷ filter p xs else filter p xs)
    by true e k = (e, k)
    by false e k = k

pub in-filter : {A : Type 0} (p : A → Bool) (x : A) (xs : List A) → In x xs → p x ≡ true → In x (filter p xs)
in-filter p x [] h e = absurd h
in-filter {A} p x (y ∷ xs) h e = by (p y) refl (λ k. in-filter p x xs k e)
  where
    by : (b : Bool) → p y ≡ b → (In x xs → In x (filter p xs)) → In x (if b then y ∷ filter p xs else filter p xs)
    by true t f = elim h [ inl g ↦ inl g | inr k ↦ inr (f k) ]
    by false t f = elim h [ inl g ↦ (let c : p x ≡ false = ap p g ∙ t in cc) | inr k ↦ f k ]

-- what passes is of the list, and passes
pub from-filter : {A : Type 0} (p : A → Bool) (x : A) (xs : List A) → In x (filter p xs) → In x xs × (p x ≡ true)
from-filter p x [] h = absurd h
from-filter {A} p x (y ∷ xs) h = by (p y) refl h (from-filter p x xs)
  where
    by : (b : Bool) → p y ≡ b → In x (if b then y ∷ filter p xs else filter p xs) → (In x (filter p xs) → In x xs × (p x ≡ true)) → In x (y ∷ xs) × (p x ≡ true)
    by true t (inl g) f = (inl g, ap p g ∙ t)
    by true t (inr k) f = let r = f k in (inr r.0, r.1)
    by false t k f = let r = f k in (inr r.0, r.1)

-- all pass, or none
pub filter-all : {A : Type 0} (p : A → Bool) (xs : List A) → AllByRecursion (λ x. p x ≡ true) xs → filter p xs ≡ xs
filter-all p [] h = refl
filter-all p (x ∷ xs) h = ap (λ b. if b then x ∷ filter p xs else filter p xs) h.0 ∙ ap (λ ys. x ∷ ys) (filter-all p xs h.1)

pub filter-none : {A : Type 0} (p : A → Bool) (xs : List A) → AllByRecursion (λ x. p x ≡ false) xs → filter p xs ≡ []
filter-none p [] h = refl
filter-none p (x ∷ xs) h = ap (λ b. if b then x ∷ filter p xs else filter p xs) h.0 ∙ filter-none p xs h.1

-- tests that agree
pub filter-same : {A : Type 0} (p q : A → Bool) (xs : List A) → AllByRecursion (λ x. p x ≡ q x) xs → filter p xs ≡ filter q xs
filter-same p q [] h = refl
filter-same p q (x ∷ xs) h =
    ap (λ b. if b then x ∷ filter p xs else filter p xs) h.0 ∙ ap (λ ys. if q x then x ∷ ys else ys) (filter-same p q xs h.1)

pub filter-flat : {A B : Type 0} (p : B → Bool) (f : A → List B) (xs : List A) → filter p (flat_map f xs) ≡ flat_map (λ x. filter p (f x)) xs
filter-flat p f [] = refl
filter-flat p f (x ∷ xs) = filter-append p (f x) (flat_map f xs) ∙ ap (λ ys. filter p (f x) ++ ys) (filter-flat p f xs)

-- what passes of numbered elements, without its numbers
pub filter-second : {A : Type 0} (p : A → Bool) (a : ℕ) (xs : List A) → map (λ e. e.1) (filter (λ e. p e.1) (enumerate_from a xs)) ≡ filter p xs
filter-second p a [] = refl
filter-second {A} p a (x ∷ xs) = by (p x) (filter-second p (a + 1) xs)
  where
    rest : List (ℕ × A)
    rest = filter (λ e. p e.1) (enumerate_from (a + 1) xs)

    by : (b : Bool) → map (λ e. e.1) rest ≡ filter p xs → map (λ e. e.1) (if b then (a, x) ∷ rest else rest) ≡ (if b then x ∷ filter p xs else filter p xs)
    by true e = ap (λ ys. x ∷ ys) e
    by false e = e

pub pairwise-filter : {A : Type 0} (R : A → A → Type 0) (p : A → Bool) (xs : List A) → Pairwise R xs → Pairwise R (filter p xs)
pairwise-filter R p [] h = tt
pairwise-filter {A} R p (x ∷ xs) h = by (p x) (all-filter (R x) p xs h.0) (pairwise-filter R p xs h.1)
  where
    by : (b : Bool) → AllByRecursion (R x) (filter p xs) → Pairwise R (filter p xs) → Pairwise R (if b then x ∷ filter p xs else filter p xs)
    by true a k = (a, k)
    by false a k = k
