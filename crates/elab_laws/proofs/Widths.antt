-- An index within the bounds has a position below the width.
use Rattle.std.specs.Prelude.{◌≡◌, ◌⊎◌, ◌+◌, ◌<◌, Bool, true, false, ◌&&◌, ◌||◌, Some, refl, ℤ, pos, negsuc, ◌-ℤ◌, ◌≤ℤ◌, nat_abs, int_le}
use Rattle.std.proofs.Common.{arith, inl, inr}
use Rattle.std.proofs.lemmas.Int.{ints}
use borrow.Author.Differences.{up, down}
use Rattle.elab_model.specs.Bits.{is_within}
use Rattle.sg_circuit.specs.Closed.{width_of}
use Rattle.sg_circuit.specs.declared.scopes.Range.{Range}

abs-is : (z : ℤ) → nat_abs z ≡ up z + down z
abs-is (pos n) = omega arith
abs-is (negsuc n) = omega arith

-- a number is not above 0 and below 0
one-side : (z : ℤ) → (up z ≡ 0) ⊎ (down z ≡ 0)
one-side (pos n) = inr refl
one-side (negsuc n) = inl refl

pub between-up : (l r i : ℤ) → l ≤ℤ i → i ≤ℤ r → nat_abs (i -ℤ l) < nat_abs (l -ℤ r) + 1
between-up l r i a b =
    let p = one-side (i -ℤ l) in
    let q = one-side (l -ℤ r) in
    rw (abs-is (i -ℤ l), abs-is (l -ℤ r)) (grind (arith, ints))

pub between-down : (l r i : ℤ) → r ≤ℤ i → i ≤ℤ l → nat_abs (i -ℤ l) < nat_abs (l -ℤ r) + 1
between-down l r i a b =
    let p = one-side (i -ℤ l) in
    let q = one-side (l -ℤ r) in
    rw (abs-is (i -ℤ l), abs-is (l -ℤ r)) (grind (arith, ints))

le-from-test : (a b : ℤ) → int_le a b ≡ true → a ≤ℤ b
le-from-test a b h = grind (arith, ints)

both-true : (a b : Bool) → (a && b) ≡ true → (a ≡ true) × (b ≡ true)
both-true true b h = (refl, h)
both-true false b h = cc

one-true : (a b : Bool) → (a || b) ≡ true → (a ≡ true) ⊎ (b ≡ true)
one-true true b h = inl refl
one-true false b h = inr h

-- an index within the bounds has a place below the width_of
pub within-width : (r : Range) (i : ℤ) → is_within r i ≡ true → nat_abs (i -ℤ r.left) < width_of (Some r)
within-width r i h =
    elim (one-true (int_le r.left i && int_le i r.right) (int_le r.right i && int_le i r.left) h) [
      | inl u ↦ (let p = both-true (int_le r.left i) (int_le i r.right) u in between-up r.left r.right i (le-from-test r.left i p.0) (le-from-test i r.right p.1))
      | inr d ↦ (let p = both-true (int_le r.right i) (int_le i r.left) d in between-down r.left r.right i (le-from-test r.right i p.0) (le-from-test i r.left p.1))
    ]
