-- Each bit of an expression is a bit of a variable, within its width_of; and so is each bit to which a port is bound.
use Rattle.std.specs.Prelude.{◌≡◌, ℕ, suc, ◌-◌, ◌<◌, ◌≤◌, List, Bool, true, false, ◌&&◌, not, Option, Some, None, slice_get, refl, if◌then◌else◌, reverse, nat_le, nat_abs, ℤ, ◌-ℤ◌}
use Rattle.std.specs.List.{AllByRecursion, range_with_len}
use Rattle.std.specs.Option.{option_and_then}
use Rattle.std.proofs.Common.{arith, subst}
use Rattle.std.proofs.lemmas.Bool.Decides.{nat_tests}
use Rattle.vl_tree.specs.declared.expressions.Select.TheVariants as select
use Rattle.elab_model.specs.Leaves.{whole, part, constants, leaves}
use Rattle.elab_model.specs.Bits.{variable_named, whole_bits, part_bits}
use Rattle.elab_laws.proofs.Widths.{within-width}
use Rattle.elab_laws.proofs.Lists.{all-flat, all-map, all-weaker, all-get, all-range, all-reverse, all-anyway}
use Rattle.elab_model.specs.Bits.{Bit, net, constant, is_within, position_at, positions_between, bits_between, leaf_bits, bits, positions}
use Rattle.elab_model.specs.Connections.{connection_at, bound_to}
use Rattle.elab_model.specs.Hierarchy.{Step}
use Rattle.elab_model.specs.Homes.{same_above, has_leg}
use Rattle.elab_model.specs.Leaves.{Leaf}
use Rattle.elab_model.specs.Names.{Variable, variables, is_among}
use Rattle.elab_model.specs.Ports.{port_names, port_list}
use Rattle.sg_circuit.specs.Closed.{width_of}
use Rattle.sg_circuit.specs.declared.scopes.Range.{Range}
use Rattle.vl_tree.specs.Tree.{Expression, Source}
use Rattle.vl_tree.specs.declared.expressions.Select.{Select}

-- a variable has this name, and the position is below its width_of
pub record HasBit (vs : List Variable) (n : List ℕ) (p : ℕ) : Type 0 where
  pub variable : Variable
  pub found : variable_named vs n ≡ Some variable
  pub below : p < width_of variable.range

abbrev pub IsBitOf : List Variable → Bit → Type 0
IsBitOf vs (net n p) = HasBit vs n p
IsBitOf vs (constant at v) = Unit {0}

pub position-below : (r : Option Range) (i : ℤ) (p : ℕ) → position_at r i ≡ Some p → p < width_of r
position-below None i p e = cc
position-below (Some r) i p e = by (is_within r i) refl
  where
    by : (b : Bool) → is_within r i ≡ b → p < width_of (Some r)
    by true h = let g : Some (nat_abs (i -ℤ r.left)) ≡ Some p = rw h at e in let f : nat_abs (i -ℤ r.left) ≡ p = cc in subst (λ k. k < width_of (Some r)) f (within-width r i h)
    by false h = let g : None ≡ Some p = rw h at e in cc

pub between-below : (w p q : ℕ) → p < w → q < w → AllByRecursion (λ k. k < w) (positions_between p q)
between-below w p q h k = by (nat_le p q) refl
  where
    by : (b : Bool) → nat_le p q ≡ b → AllByRecursion (λ k. k < w) (if b then range_with_len p (suc (q - p)) else reverse (range_with_len q (suc (p - q))))
    by true e = let le : p ≤ q = grind (arith, nat_tests) in all-range w p (suc (q - p)) (omega arith)
    by false e = let lt : q < p = grind (arith, nat_tests) in all-reverse (λ k. k < w) (range_with_len q (suc (p - q))) (all-range w q (suc (p - q)) (omega arith))

part-below : (vs : List Variable) (n : List ℕ) (v : Variable) → variable_named vs n ≡ Some v → (a b : Option ℕ)
    → ((p : ℕ) → a ≡ Some p → p < width_of v.range) → ((p : ℕ) → b ≡ Some p → p < width_of v.range) → AllByRecursion (IsBitOf vs) (bits_between n a b)
part-below vs n v f None b h k = tt
part-below vs n v f (Some p) None h k = tt
part-below vs n v f (Some p) (Some q) h k =
    all-map (IsBitOf vs) (net n) (positions_between p q)
    (all-weaker (λ i. i < width_of v.range) (λ i. HasBit vs n i) (positions_between p q) (λ i lt. record { variable = v; found = f; below = lt })
    (between-below (width_of v.range) p q (h p refl) (k q refl)))

whole-below : (vs : List Variable) (n : List ℕ) (o : Option Variable) → variable_named vs n ≡ o → AllByRecursion (IsBitOf vs) (whole_bits n o)
whole-below vs n None f = tt
whole-below vs n (Some v) f =
    all-map (IsBitOf vs) (net n) (positions v.range)
    (all-weaker (λ i. i < width_of v.range) (λ i. HasBit vs n i) (positions v.range) (λ i lt. record { variable = v; found = f; below = lt })
    (all-range (width_of v.range) 0 (width_of v.range) (omega arith)))

select-below : (vs : List Variable) (n : List ℕ) (s : Select) (o : Option Variable) → variable_named vs n ≡ o → AllByRecursion (IsBitOf vs) (part_bits n s o)
select-below vs n s None f = tt
select-below vs n (select.Bit i) (Some v) f =
    part-below vs n v f (position_at v.range i) (position_at v.range i) (position-below v.range i) (position-below v.range i)
select-below vs n (select.Part l r) (Some v) f =
    part-below vs n v f (position_at v.range l) (position_at v.range r) (position-below v.range l) (position-below v.range r)

leaf-below : (vs : List Variable) (l : Leaf) → AllByRecursion (IsBitOf vs) (leaf_bits vs l)
leaf-below vs (whole n) = whole-below vs n.text (variable_named vs n.text) refl
leaf-below vs (part n s) = select-below vs n.text s (variable_named vs n.text) refl
leaf-below vs (constants at values) = all-map (IsBitOf vs) (constant at) values (all-anyway (λ v. Unit {0}) values (λ v. tt))

-- each bit of an expression
pub bits-below : (vs : List Variable) (e : Expression) → AllByRecursion (IsBitOf vs) (bits vs e)
bits-below vs e = all-flat (IsBitOf vs) (leaf_bits vs) (leaves e) (leaf-below vs)

bound-in : (vs : List Variable) (p : ℕ) (b : Bit) (o : Option Expression) → option_and_then (λ e. slice_get (bits vs e) p) o ≡ Some b → IsBitOf vs b
bound-in vs p b None e = cc
bound-in vs p b (Some x) e = all-get (IsBitOf vs) (bits vs x) p b (bits-below vs x) e

-- what a bit of a port is bound to
pub bound-below : (s parent : Step) (n : List ℕ) (p : ℕ) (b : Bit) → bound_to s parent n p ≡ Some b → IsBitOf (variables parent.definition) b
bound-below s parent n p b e = bound-in (variables parent.definition) p b (connection_at s.connections (port_list s.definition) n) e

-- what a bit is the same net as
pub above-below : (source : Source) (s parent : Step) (n : List ℕ) (p : ℕ) (b : Bit) → same_above source s parent n p ≡ Some b → IsBitOf (variables parent.definition) b
above-below source s parent n p b e = by (is_among n (port_names s.definition) && not (has_leg source s n)) refl
  where
    by : (t : Bool) → (is_among n (port_names s.definition) && not (has_leg source s n)) ≡ t → IsBitOf (variables parent.definition) b
    by true h = let g : bound_to s parent n p ≡ Some b = rw h at e in bound-below s parent n p b g
    by false h = let g : None ≡ Some b = rw h at e in cc
