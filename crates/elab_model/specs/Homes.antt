-- The net of a bit, found by climbing from a port to what it is connected to in the parent (IEEE 1364-2005, 12.3.9).
use Rattle.std.specs.Prelude.{ℕ, List, [], ◌∷◌, Bool, true, false, ◌&&◌, not, ◌==◌, Option, Some, None, bytes_eq, if◌then◌else◌}
use Rattle.sg_circuit.specs.declared.scopes.Port.{Port}
use Rattle.sg_circuit.specs.declared.scopes.Port.TheVariants as port
use Rattle.vl_tree.specs.Tree.{Source}
use Rattle.elab_model.specs.Ports.{port_names}
use Rattle.elab_model.specs.Names.{variable, is_among}
use Rattle.elab_model.specs.Bits.{Bit, net, constant}
use Rattle.elab_model.specs.Hierarchy.{Step, Instance, has_no_child}
use Rattle.elab_model.specs.Connections.{bound_to}

-- a net, before it has a number
pub data Spot : Type 0 where
  -- a bit of a variable of an instance
  bit : (scope : ℕ) (name : List ℕ) (position : ℕ) → Spot
  -- what lies outside an input bit of a leaf, where no net of the parent does: the parent, and the member that the leaf is
  outside : (scope : ℕ) (member : ℕ) (name : List ℕ) (position : ℕ) → Spot
  -- a constant at an input of a gate or a primitive: the instance, its member and the input
  terminal : (scope : ℕ) (member : ℕ) (input : ℕ) → Spot
  -- what is driven inside an instance in place of an output bit to which specify paths lead (14.1)
  inner : (scope : ℕ) (name : List ℕ) (position : ℕ) → Spot
  -- a delayed copy, which no text names, of a bit of an instance (15.8)
  late : (scope : ℕ) (name : List ℕ) (position : ℕ) → Spot

abbrev pub is_same_spot : Spot → Spot → Bool
is_same_spot (bit s n p) (bit t m q) = s == t && (bytes_eq n m && p == q)
is_same_spot (outside s k n p) (outside t l m q) = s == t && (k == l && (bytes_eq n m && p == q))
is_same_spot (terminal s k i) (terminal t l j) = s == t && (k == l && i == j)
is_same_spot (inner s n p) (inner t m q) = s == t && (bytes_eq n m && p == q)
is_same_spot (late s n p) (late t m q) = s == t && (bytes_eq n m && p == q)
is_same_spot (bit s n p) (outside t l m q) = false
is_same_spot (bit s n p) (terminal t l j) = false
is_same_spot (bit s n p) (inner t m q) = false
is_same_spot (bit s n p) (late t m q) = false
is_same_spot (outside s k n p) (bit t m q) = false
is_same_spot (outside s k n p) (terminal t l j) = false
is_same_spot (outside s k n p) (inner t m q) = false
is_same_spot (outside s k n p) (late t m q) = false
is_same_spot (terminal s k i) (bit t m q) = false
is_same_spot (terminal s k i) (outside t l m q) = false
is_same_spot (terminal s k i) (inner t m q) = false
is_same_spot (terminal s k i) (late t m q) = false
is_same_spot (inner s n p) (bit t m q) = false
is_same_spot (inner s n p) (outside t l m q) = false
is_same_spot (inner s n p) (terminal t l j) = false
is_same_spot (inner s n p) (late t m q) = false
is_same_spot (late s n p) (bit t m q) = false
is_same_spot (late s n p) (outside t l m q) = false
is_same_spot (late s n p) (terminal t l j) = false
is_same_spot (late s n p) (inner t m q) = false

abbrev pub is_input : Port → Bool
is_input port.Input = true
is_input port.Output = false
is_input port.Inner = false

abbrev pub is_output : Port → Bool
is_output port.Input = false
is_output port.Output = true
is_output port.Inner = false

-- whether a Leg stands at a name of an instance that isn't the top: at each input port of a leaf
abbrev pub has_leg : Source → Step → List ℕ → Bool
has_leg source s n = is_input (variable s.definition n).port && has_no_child source s

-- whether a name's nets are those that it is connected to in the parent: at each port but where a Leg stands
abbrev pub is_shared : Source → Step → List ℕ → Bool
is_shared source s n = is_among n (port_names s.definition) && not (has_leg source s n)

-- what a bit is the same net as in the parent, if it isn't a net of its own
abbrev pub same_above : Source → Step → Step → List ℕ → ℕ → Option Bit
same_above source s parent n p = if is_shared source s n then bound_to s parent n p else None

-- the net of a bit
abbrev pub home : Source → Step → List Step → List ℕ → ℕ → Spot
home source s [] n p = bit s.number n p
home source s (parent ∷ above) n p =
    elim (same_above source s parent n p) [
      | None ↦ bit s.number n p
      | Some (net m q) ↦ home source parent above m q
      | Some (constant at v) ↦ bit s.number n p
    ]

abbrev pub home_of : Source → Instance → List ℕ → ℕ → Spot
home_of source s n p = home source s.step s.above n p
