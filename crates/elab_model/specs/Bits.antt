-- The bits of an expression, from left to right.
use Rattle.std.specs.Prelude.{ℕ, suc, ◌-◌, List, ◌&&◌, ◌||◌, Bool, Option, Some, None, [], map, find, flat_map, reverse, bytes_eq, nat_le, if◌then◌else◌, ℤ, ◌-ℤ◌, ◌+ℤ◌, pos, nat_abs, int_le}
use Rattle.std.specs.List.{range_with_len}
use Rattle.sg_circuit.specs.declared.scopes.Range.{Range}
use Rattle.sg_circuit.specs.Closed.{width_of}
use Rattle.sg_logic.specs.declared.values.Value.{Value}
use Rattle.sg_text.specs.declared.places.Place.{Place}
use Rattle.vl_tree.specs.declared.expressions.Select.{Select}
use Rattle.vl_tree.specs.declared.expressions.Select.TheVariants as select
use Rattle.vl_tree.specs.Tree.{Expression}
use Rattle.elab_model.specs.Leaves.{Leaf, whole, part, constants, leaves}
use Rattle.elab_model.specs.Names.{Variable}

-- a bit of a variable, by its position from the left, or a constant
pub data Bit : Type 0 where
  net : (name : List ℕ) (position : ℕ) → Bit
  constant : Place → Value → Bit

-- whether an index lies between the bounds, either of which may be the greater (IEEE 1364-2005, 4.3.1)
abbrev pub is_within : Range → ℤ → Bool
is_within r i = (int_le r.left i && int_le i r.right) || (int_le r.right i && int_le i r.left)

-- the position of an index from the left; a scalar has none
abbrev pub position_at : Option Range → ℤ → Option ℕ
position_at None i = None
position_at (Some r) i = if is_within r i then Some (nat_abs (i -ℤ r.left)) else None

-- the index at a position
abbrev pub index_at : Option Range → ℕ → Option ℤ
index_at None p = None
index_at (Some r) p = Some (if int_le r.left r.right then r.left +ℤ pos p else r.left -ℤ pos p)

abbrev pub positions : Option Range → List ℕ
positions r = range_with_len 0 (width_of r)

-- the positions from one to another, in either direction (5.2.1)
abbrev pub positions_between : ℕ → ℕ → List ℕ
positions_between p q = if nat_le p q then range_with_len p (suc (q - p)) else reverse (range_with_len q (suc (p - q)))

abbrev pub bits_between : List ℕ → Option ℕ → Option ℕ → List Bit
bits_between n (Some p) (Some q) = map (net n) (positions_between p q)
bits_between n (Some p) None = []
bits_between n None q = []

abbrev pub select_bits : List ℕ → Option Range → Select → List Bit
select_bits n r (select.Bit i) = bits_between n (position_at r i) (position_at r i)
select_bits n r (select.Part left right) = bits_between n (position_at r left) (position_at r right)

-- the bits of what was found of a name
abbrev pub whole_bits : List ℕ → Option Variable → List Bit
whole_bits n None = []
whole_bits n (Some v) = map (net n) (positions v.range)

abbrev pub part_bits : List ℕ → Select → Option Variable → List Bit
part_bits n s None = []
part_bits n s (Some v) = select_bits n v.range s

abbrev pub variable_named : List Variable → List ℕ → Option Variable
variable_named vs n = find (λ v. bytes_eq n v.name) vs

abbrev pub leaf_bits : List Variable → Leaf → List Bit
leaf_bits vs (whole n) = whole_bits n.text (variable_named vs n.text)
leaf_bits vs (part n s) = part_bits n.text s (variable_named vs n.text)
leaf_bits vs (constants p values) = map (constant p) values

abbrev pub bits : List Variable → Expression → List Bit
bits vs e = flat_map (leaf_bits vs) (leaves e)
