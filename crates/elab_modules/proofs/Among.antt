-- Elements of lists by their places and by recursion, and those that a list was made of.
use Rattle.std.specs.Prelude.{◌≡◌, ℕ, zero, suc, ◌+◌, ◌<◌, List, [], ◌∷◌, Option, Some, None, filter_map, map, length, slice_index_or, refl}
use Rattle.std.specs.List.{IsAmong, cons_option, enumerate_from}
use Rattle.std.proofs.Common.{sym, ◌∙◌, ap, arith, inl, inr}
use Rattle.elab_laws.proofs.Lists.{In}

pub in-among : {A : Type 0} (x : A) (xs : List A) → In x xs → IsAmong xs x
in-among x [] h = absurd h
in-among x (y ∷ xs) (inl e) = (0, (omega arith, e))
in-among x (y ∷ xs) (inr h) = let r = in-among x xs h in let lt : r.0 < length xs = r.1.0 in (suc r.0, (omega arith, r.1.1))

at-in : {A : Type 0} (x : A) (xs : List A) (i : ℕ) → i < length xs → x ≡ slice_index_or xs i x → In x xs
at-in x [] i lt e = absurd (omega arith)
at-in x (y ∷ xs) zero lt e = inl e
at-in x (y ∷ xs) (suc i) lt e = inr (at-in x xs i (omega arith) e)

pub among-in : {A : Type 0} (x : A) (xs : List A) → IsAmong xs x → In x xs
among-in x xs h = at-in x xs h.0 h.1.0 h.1.1

no-some : {B : Type 0} (b : B) → ¬ ◌≡◌ {A = Option B} None (Some b)
no-some b c = cc

some-same : {B : Type 0} (a b : B) → ◌≡◌ {A = Option B} (Some a) (Some b) → a ≡ b
some-same a b c = cc

-- what an element gives is among what all give
pub in-kept : {A B : Type 0} (f : A → Option B) (x : A) (y : B) (xs : List A) → In x xs → f x ≡ Some y → In y (filter_map f xs)
in-kept f x y [] h e = absurd h
in-kept {A} {B} f x y (z ∷ zs) h e = by (f z) refl (λ k. in-kept f x y zs k e)
  where
    by : (o : Option B) → f z ≡ o → (In x zs → In y (filter_map f zs)) → In y (cons_option o (filter_map f zs))
    by None t rest = elim h [ inl g ↦ absurd (no-some y (sym t ∙ ap f (sym g) ∙ e)) | inr k ↦ rest k ]
    by (Some w) t rest = elim h [ inl g ↦ inl (sym (some-same w y (sym t ∙ ap f (sym g) ∙ e))) | inr k ↦ inr (rest k) ]

-- an element that gave it
pub record Kept {A B : Type 0} (f : A → Option B) (y : B) (xs : List A) : Type 0 where
  pub source : A
  pub there : In source xs
  pub gives : f source ≡ Some y

pub from-kept : {A B : Type 0} (f : A → Option B) (y : B) (xs : List A) → In y (filter_map f xs) → Kept f y xs
from-kept f y [] h = absurd h
from-kept {A} {B} f y (x ∷ xs) h = by (f x) refl h (from-kept f y xs)
  where
    later : Kept f y xs → Kept f y (x ∷ xs)
    later r = record { source = r.source; there = inr r.there; gives = r.gives }

    by : (o : Option B) → f x ≡ o → In y (cons_option o (filter_map f xs)) → (In y (filter_map f xs) → Kept f y xs) → Kept f y (x ∷ xs)
    by None t k rest = later (rest k)
    by (Some w) t k rest = elim k [ inl g ↦ record { source = x; there = inl refl; gives = t ∙ ap Some (sym g) } | inr m ↦ later (rest m) ]

-- an element has a number
pub in-numbered : {A : Type 0} (a : ℕ) (x : A) (xs : List A) → In x xs → (k : ℕ) × In (k, x) (enumerate_from a xs)
in-numbered a x [] h = absurd h
in-numbered a x (y ∷ ys) (inl e) = (a, inl (ap (λ z. (a, z)) e))
in-numbered a x (y ∷ ys) (inr h) = let r = in-numbered (a + 1) x ys h in (r.0, inr r.1)

pub in-mapped : {A B : Type 0} (f : A → B) (d : A) (xs : List A) (k : ℕ) → k < length xs → In (f (slice_index_or xs k d)) (map f xs)
in-mapped f d [] k lt = absurd (omega arith)
in-mapped f d (x ∷ xs) zero lt = inl refl
in-mapped f d (x ∷ xs) (suc k) lt = inr (in-mapped f d xs k (omega arith))

pub some-is : {A : Type 0} (o : Option A) (x y : A) → o ≡ Some x → o ≡ Some y → x ≡ y
some-is o x y e f = cc
