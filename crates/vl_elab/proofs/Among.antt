-- What is among the elements of a list, by its place and by recursion.
use Rattle.std.specs.Prelude.{◌≡◌, ℕ, zero, suc, ◌<◌, List, [], ◌∷◌, flat_map, length, slice_index_or}
use Rattle.std.specs.List.{IsAmong}
use Rattle.std.proofs.Common.{arith, inl, inr}
use Rattle.elab_laws.proofs.Lists.{In, in-flat, from-flat}

at-in : {A : Type 0} (xs : List A) (v : A) (i : ℕ) → i < length xs → v ≡ slice_index_or xs i v → In v xs
at-in [] v i lt e = absurd (omega arith)
at-in (x ∷ xs) v zero lt e = inl e
at-in (x ∷ xs) v (suc i) lt e = inr (at-in xs v i (omega arith) e)

pub among-in : {A : Type 0} (xs : List A) (v : A) → IsAmong xs v → In v xs
among-in xs v (i, (lt, e)) = at-in xs v i lt e

pub in-among : {A : Type 0} (xs : List A) (v : A) → In v xs → IsAmong xs v
in-among [] v h = absurd h
in-among (x ∷ xs) v (inl e) = (0, (omega arith, e))
in-among (x ∷ xs) v (inr h) = let r = in-among xs v h in (suc r.0, (omega arith, r.1.1))

-- what a part of each element's list has, the whole has
pub in-wider : {A B : Type 0} (f g : A → List B) (xs : List A) (b : B) → ((x : A) → In b (f x) → In b (g x)) → In b (flat_map f xs) → In b (flat_map g xs)
in-wider f g xs b wider h = let r = from-flat f b xs h in in-flat g r.source b xs r.there (wider r.source r.made)
