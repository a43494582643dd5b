-- Facts about each element of a list, and of its parts.
use Rattle.std.proofs.Common.{List, [], ◌∷◌, ◌++◌, reverse}
use Rattle.std.specs.Prelude.{All, flat_map}
use Rattle.std.proofs.lemmas.List.Elements.{All-nil, All-cons, All-append, All-head, All-tail}
use Rattle.std.proofs.lemmas.List.Sorted.{All-permutation, IsPermutation-reverse}

pub All-first : {X : Type 0} (P : X → Type 0) (xs ys : List X) → All P (xs ++ ys) → All P xs
All-first P [] ys h = All-nil P
All-first P (x ∷ xs) ys h = All-cons P x xs (All-head P x (xs ++ ys) h) (All-first P xs ys (All-tail P x (xs ++ ys) h))

pub All-second : {X : Type 0} (P : X → Type 0) (xs ys : List X) → All P (xs ++ ys) → All P ys
All-second P [] ys h = h
All-second P (x ∷ xs) ys h = All-second P xs ys (All-tail P x (xs ++ ys) h)

pub All-last : {X : Type 0} (P : X → Type 0) (xs : List X) (x : X) → All P (xs ++ x ∷ []) → P x
All-last P xs x h = All-head P x [] (All-second P xs (x ∷ []) h)

pub All-reverse : {X : Type 0} (P : X → Type 0) (xs : List X) → All P xs → All P (reverse xs)
All-reverse P xs h = All-permutation P xs (reverse xs) (IsPermutation-reverse xs) h

pub All-flat_map : {A B : Type 0} (P : B → Type 0) (f : A → List B) (xs : List A) → All (λ x. All P (f x)) xs → All P (flat_map f xs)
All-flat_map P f [] h = All-nil P
All-flat_map P f (x ∷ xs) h = All-append P (f x) (flat_map f xs) (All-head (λ x. All P (f x)) x xs h) (All-flat_map P f xs (All-tail (λ x. All P (f x)) x xs h))
