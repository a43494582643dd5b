-- What a filter keeps, and lists by their places.
use Rattle.std.specs.Prelude.{◌≡◌, ℕ, zero, suc, ◌+◌, ◌-◌, ◌<◌, List, [], ◌∷◌, ◌++◌, Bool, true, false, cond, map, flat_map, length, refl}
use Rattle.std.specs.List.{AllByRecursion, filter, range_with_len}
use Rattle.std.proofs.Common.{sym, ◌∙◌, ap, arith, inl, inr, subst, get_or, add-zero}
use Rattle.elab_laws.proofs.Lists.{In}
use Rattle.elab_bits.proofs.OneMore.{one-added}

pub filter-map : {A B : Type 0} (p : B → Bool) (f : A → B) (xs : List A) → filter p (map f xs) ≡ map f (filter (λ x. p (f x)) xs)
filter-map p f [] = refl
filter-map {A} {B} p f (x ∷ xs) = by (p (f x)) (filter-map p f xs)
  where
    by : (b : Bool) → filter p (map f xs) ≡ map f (filter (λ x. p (f x)) xs)
        → cond b (f x ∷ filter p (map f xs)) (filter p (map f xs)) ≡ map f (cond b (x ∷ filter (λ x. p (f x)) xs) (filter (λ x. p (f x)) xs))
    by true e = ap (λ ys. f x ∷ ys) e
    by false e = e

pub filter-same : {A : Type 0} (p q : A → Bool) (xs : List A) → AllByRecursion (λ x. p x ≡ q x) xs → filter p xs ≡ filter q xs
filter-same p q [] h = refl
filter-same p q (x ∷ xs) h = ap (λ b. cond b (x ∷ filter p xs) (filter p xs)) h.0 ∙ ap (λ ys. cond (q x) (x ∷ ys) ys) (filter-same p q xs h.1)

pub in-filter : {A : Type 0} (p : A → Bool) (x : A) (xs : List A) → In x xs → p x ≡ true → In x (filter p xs)
in-filter p x [] h e = absurd h
in-filter {A} p x (y ∷ xs) (inl s) e = let t : p y ≡ true = ap p (sym s) ∙ e in subst (λ b. In x (cond b (y ∷ filter p xs) (filter p xs))) (sym t) (inl s)
in-filter {A} p x (y ∷ xs) (inr h) e = by (p y) (in-filter p x xs h e)
  where
    by : (b : Bool) → In x (filter p xs) → In x (cond b (y ∷ filter p xs) (filter p xs))
    by true k = inr k
    by false k = k

-- what holds of all that passes
pub all-filter : {A : Type 0} (P : A → Type 0) (p : A → Bool) (xs : List A) → AllByRecursion (λ x. p x ≡ true → P x) xs → AllByRecursion P (filter p xs)
all-filter P p [] h = tt
all-filter {A} P p (x ∷ xs) h = by (p x) refl (all-filter P p xs h.1)
  where
    by : (b : Bool) → p x ≡ b → AllByRecursion P (filter p xs) → AllByRecursion P (cond b (x ∷ filter p xs) (filter p xs))
    by true e k = (h.0 e, k)
    by false e k = k

-- the elements of a list, by their places
elements-from : {A : Type 0} (f : ℕ → A) (a : ℕ) (xs : List A) → ((i : ℕ) → f (a + i) ≡ get_or xs i (f (a + i))) → xs ≡ map f (range_with_len a (length xs))
elements-from f a [] h = refl
elements-from f a (x ∷ xs) h =
    let here : x ≡ f a = sym (ap f (sym (add-zero a)) ∙ h 0) in
    let there = elements-from f (a + 1) xs (λ i. let s : (a + 1) + i ≡ a + suc i = omega arith in ap f s ∙ h (suc i) ∙ ap (λ d. get_or xs i d) (ap f (sym s))) in
    ap (λ y. y ∷ xs) here ∙ ap (λ ys. f a ∷ ys) there

same-default : {A : Type 0} (xs : List A) (i : ℕ) (d : A) → get_or xs i d ≡ get_or xs i (get_or xs i d)
same-default [] i d = refl
same-default (x ∷ xs) zero d = refl
same-default (x ∷ xs) (suc i) d = same-default xs i d

pub by-places : {A : Type 0} (xs : List A) (d : A) → xs ≡ map (λ i. get_or xs i d) (range_with_len 0 (length xs))
by-places xs d = elements-from (λ i. get_or xs i d) 0 xs (λ i. let z : 0 + i ≡ i = omega arith in ap (λ i. get_or xs i d) z ∙ same-default xs i d ∙ ap (λ e. get_or xs i e) (ap (λ i. get_or xs i d) (sym z)))

pub flat-none : {A B : Type 0} (f : A → List B) (xs : List A) → ((x : A) → f x ≡ []) → flat_map f xs ≡ []
flat-none f [] h = refl
flat-none f (x ∷ xs) h = ap (λ ys. ys ++ flat_map f xs) (h x) ∙ flat-none f xs h

pub map-same : {A B : Type 0} (f g : A → B) (xs : List A) → AllByRecursion (λ x. f x ≡ g x) xs → map f xs ≡ map g xs
map-same f g [] h = refl
map-same f g (x ∷ xs) h = ap (λ y. y ∷ map f xs) h.0 ∙ ap (λ ys. g x ∷ ys) (map-same f g xs h.1)

pub all-both : {A : Type 0} (P Q : A → Type 0) (xs : List A) → AllByRecursion P xs → AllByRecursion Q xs → AllByRecursion (λ x. P x × Q x) xs
all-both P Q [] h k = tt
all-both P Q (x ∷ xs) h k = ((h.0, k.0), all-both P Q xs h.1 k.1)

-- an element of a map comes of one
pub from-map : {A B : Type 0} (f : A → B) (y : B) (xs : List A) → In y (map f xs) → (x : A) × In x xs × (f x ≡ y)
from-map f y [] h = absurd h
from-map f y (x ∷ xs) (inl e) = (x, inl refl, sym e)
from-map f y (x ∷ xs) (inr h) = let r = from-map f y xs h in (r.0, inr r.1, r.2)

-- ---- one more is tested

pub one-kept : {A : Type 0} (p : A → Bool) (x : A) (xs rest left new total : List A) → p x ≡ true → rest ≡ x ∷ left → new ≡ xs ++ x ∷ [] → xs ++ filter p rest ≡ total → new ++ filter p left ≡ total
one-kept p x xs rest left new total is r n h =
    one-added x xs (filter p rest) (filter p left) new total (ap (filter p) r ∙ ap (λ b. cond b (x ∷ filter p left) (filter p left)) is) n h

pub one-dropped : {A : Type 0} (p : A → Bool) (x : A) (xs rest left new total : List A) → p x ≡ false → rest ≡ x ∷ left → new ≡ xs → xs ++ filter p rest ≡ total → new ++ filter p left ≡ total
one-dropped p x xs rest left new total is r n h =
    let same : filter p rest ≡ filter p left = ap (filter p) r ∙ ap (λ b. cond b (x ∷ filter p left) (filter p left)) is in
    ap (λ ys. ys ++ filter p left) n ∙ ap (λ ys. xs ++ ys) (sym same) ∙ h

pub range-first : (k n : ℕ) → k < n → range_with_len k (n - k) ≡ k ∷ range_with_len (k + 1) (n - (k + 1))
range-first k n lt = let e : n - k ≡ suc (n - (k + 1)) = omega arith in ap (range_with_len k) e
