-- Faults of expressions and of what is connected to them (IEEE 1364-2005, 5.2.1, 6.1, 7.1, 12.3.9).
use Rattle.std.specs.Prelude.{ℕ, List, [], ◌∷◌, ◌++◌, Bool, true, false, ◌&&◌, ◌||◌, not, ◌==◌, nat_lt, nat_le, ◌^◌, Option, Some, None, length, flat_map, take, ℤ}
use Rattle.std.specs.List.{list_any}
use Rattle.sg_circuit.specs.declared.scopes.Range.{Range}
use Rattle.sg_circuit.specs.Corner.{Corner}
use Rattle.vl_tree.specs.declared.expressions.Select.{Select}
use Rattle.vl_tree.specs.declared.expressions.Select.TheVariants as select
use Rattle.vl_tree.specs.Tree.{Named, Expression, Delay, Join, Module}
use Rattle.elab_model.specs.declared.kinds.ElabKind.TheVariants.{UnknownName, WidthMismatch, BadTerminal, BadDelay}
use Rattle.elab_model.specs.Leaves.{Leaf, whole, part, constants, leaves, place_of}
use Rattle.elab_model.specs.Names.{Variable}
use Rattle.elab_model.specs.Bits.{Bit, net, constant, bits, position_at, variable_named}
use Rattle.elab_model.specs.Hierarchy.{is_empty}
use Rattle.elab_model.specs.Delays.{delays_of}
use Rattle.elab_model.specs.Faults.{Fault, fault, fault_if}

abbrev pub is_missing : {A : Type 0} → Option A → Bool
is_missing None = true
is_missing (Some x) = false

-- an index is out of range; a scalar has none
abbrev pub has_index : Option Range → Select → Bool
has_index r (select.Bit i) = not (is_missing (position_at r i))
has_index r (select.Part left right) = not (is_missing (position_at r left)) && not (is_missing (position_at r right))

abbrev pub part_faults : Named → Select → Option Variable → List Fault
part_faults n s None = fault UnknownName n.place ∷ []
part_faults n s (Some v) = fault_if (not (has_index v.range s)) BadTerminal n.place

abbrev pub leaf_faults : List Variable → Leaf → List Fault
leaf_faults vs (whole n) = fault_if (is_missing (variable_named vs n.text)) UnknownName n.place
leaf_faults vs (part n s) = part_faults n s (variable_named vs n.text)
leaf_faults vs (constants p values) = []

abbrev pub expression_faults : List Variable → Expression → List Fault
expression_faults vs e = flat_map (leaf_faults vs) (leaves e)

-- whether its names are declared and its indices in range: only then has it a width
abbrev pub is_sound : List Variable → Expression → Bool
is_sound vs e = is_empty (expression_faults vs e)

-- an expression of another width
abbrev pub width_faults : List Variable → ℕ → Expression → List Fault
width_faults vs w e = fault_if (is_sound vs e && not (length (bits vs e) == w)) WidthMismatch (place_of e)

-- constants that are driven
abbrev pub constant_fault : Bit → List Fault
constant_fault (net n p) = []
constant_fault (constant p v) = fault BadTerminal p ∷ []

abbrev pub constant_faults : List Variable → Expression → List Fault
constant_faults vs e = flat_map constant_fault (bits vs e)

-- the sides of an assignment have different widths
abbrev pub assignment_faults : List Variable → Join → List Fault
assignment_faults vs j =
    constant_faults vs j.left
    ++ fault_if (is_sound vs j.left && (is_sound vs j.right && not (length (bits vs j.left) == length (bits vs j.right)))) WidthMismatch j.place

-- the terminals of a gate or a primitive, the first of which are outputs, are one bit each
abbrev pub terminal_faults : List Variable → (outputs : ℕ) → List Expression → List Fault
terminal_faults vs outputs es = flat_map (width_faults vs 1) es ++ flat_map (constant_faults vs) (take outputs es)

-- the ticks that a delay stays below
abbrev pub delay_limit : ℕ
delay_limit = 2 ^ 60

-- more delays than a gate or a primitive has (7.14, 8.6), or one that is too long
abbrev pub delay_faults : (most : ℕ) → Corner → ℤ → Module → Option Delay → List Fault
delay_faults most corner tick m None = []
delay_faults most corner tick m (Some d) =
    fault_if (nat_lt most (length d.values) || list_any (nat_le delay_limit) (delays_of corner tick m (Some d))) BadDelay d.place
