-- The positions of a select's ends, and its bits.
use Rattle.std.specs.Prelude.{◌≡◌, ℕ, ◌<◌, List, [], true, false, ◌&&◌, not, Option, Some, None, map, refl, reverse, suc, ◌+◌, ◌-◌, ◌≤◌, nat_le}
use Rattle.std.specs.List.{range_with_len}
use Rattle.std.proofs.Common.{sym, ap, arith}
use Rattle.std.proofs.lemmas.Bool.Decides.{nat_tests}
use Rattle.sg_circuit.specs.Closed.{width_of}
use Rattle.sg_circuit.specs.declared.scopes.Range.{Range}
use Rattle.vl_tree.specs.declared.expressions.Select.{Select}
use Rattle.vl_tree.specs.declared.expressions.Select.TheVariants as select
use Rattle.elab_model.specs.Bits.{net, position_at, positions_between, bits_between, select_bits}
use Rattle.elab_model.specs.TerminalFaults.{is_missing, has_index}
use Rattle.elab_variables.proofs.Places.{position-below}
use Rattle.elab_bits.specs.Words.{both, ends}

-- from left to right, and from right to left
pub forth-is : (p q : ℕ) → p ≤ q → range_with_len p (q + 1 - p) ≡ positions_between p q
forth-is p q le =
    let t : nat_le p q ≡ true = grind (arith, nat_tests) in
    let n : q + 1 - p ≡ suc (q - p) = omega arith in
    rw t (ap (range_with_len p) n)

pub back-is : (p q : ℕ) → q < p → reverse (range_with_len q (p + 1 - q)) ≡ positions_between p q
back-is p q lt =
    let t : nat_le p q ≡ false = grind (arith, nat_tests) in
    let n : p + 1 - q ≡ suc (p - q) = omega arith in
    rw t (ap (λ k. reverse (range_with_len q k)) n)

both-are : (a b : Option ℕ) (x : ℕ × ℕ) → Some x ≡ both a b → (a ≡ Some x.0) × (b ≡ Some x.1)
both-are (Some p) (Some q) x e = let f : x ≡ (p, q) = cc in (ap (λ (y : ℕ × ℕ). Some y.0) (sym f), ap (λ (y : ℕ × ℕ). Some y.1) (sym f))
both-are (Some p) None x e = cc
both-are None b x e = cc

-- both positions are below the width
pub ends-below : (r : Option Range) (s : Select) (x : ℕ × ℕ) → Some x ≡ ends r s → (x.0 < width_of r) × (x.1 < width_of r)
ends-below r (select.Bit i) x e = let f = both-are (position_at r i) (position_at r i) x e in (position-below r i x.0 f.0, position-below r i x.1 f.1)
ends-below r (select.Part a b) x e = let f = both-are (position_at r a) (position_at r b) x e in (position-below r a x.0 f.0, position-below r b x.1 f.1)

between : (n : List ℕ) (a b : Option ℕ) (p q : ℕ) → a ≡ Some p → b ≡ Some q → bits_between n a b ≡ map (net n) (positions_between p q)
between n a b p q e f = rw (e, f) refl

pub select-is : (n : List ℕ) (r : Option Range) (s : Select) (x : ℕ × ℕ) → Some x ≡ ends r s → select_bits n r s ≡ map (net n) (positions_between x.0 x.1)
select-is n r (select.Bit i) x e = let f = both-are (position_at r i) (position_at r i) x e in between n (position_at r i) (position_at r i) x.0 x.1 f.0 f.1
select-is n r (select.Part a b) x e = let f = both-are (position_at r a) (position_at r b) x e in between n (position_at r a) (position_at r b) x.0 x.1 f.0 f.1

none-between : (n : List ℕ) (a b : Option ℕ) → None ≡ both a b → bits_between n a b ≡ []
none-between n (Some x) (Some y) e = cc
none-between n (Some x) None e = refl
none-between n None b e = refl

pub select-none : (n : List ℕ) (r : Option Range) (s : Select) → None ≡ ends r s → select_bits n r s ≡ []
select-none n r (select.Bit i) e = none-between n (position_at r i) (position_at r i) e
select-none n r (select.Part a b) e = none-between n (position_at r a) (position_at r b) e

-- an index has ends, or is out of range
one-missing : (a b : Option ℕ) → None ≡ both a b → (not (is_missing a) && not (is_missing b)) ≡ false
one-missing (Some x) (Some y) e = cc
one-missing (Some x) None e = refl
one-missing None b e = refl

same-missing : (a : Option ℕ) → None ≡ both a a → not (is_missing a) ≡ false
same-missing (Some x) e = cc
same-missing None e = refl

pub out-of-range : (r : Option Range) (s : Select) → None ≡ ends r s → has_index r s ≡ false
out-of-range r (select.Bit i) e = same-missing (position_at r i) e
out-of-range r (select.Part a b) e = one-missing (position_at r a) (position_at r b) e

pub in-range : (r : Option Range) (s : Select) (x : ℕ × ℕ) → Some x ≡ ends r s → has_index r s ≡ true
in-range r (select.Bit i) x e = let f = both-are (position_at r i) (position_at r i) x e in rw f.0 refl
in-range r (select.Part a b) x e = let f = both-are (position_at r a) (position_at r b) x e in rw (f.0, f.1) refl
