-- User-defined primitives: what their declarations make of their rows (IEEE 1364-2005, clause 8).
use Rattle.std.specs.Prelude.{ℕ, ◌-◌, List, [], ◌∷◌, Bool, true, false, not, Option, Some, None, length, flat_map}
use Rattle.sg_logic.specs.declared.values.Value.{Value}
use Rattle.sg_logic.specs.declared.values.Value.TheVariants.{X}
use Rattle.vl_tree.specs.Meaning.{Primitive as table}
use Rattle.vl_tree.specs.Tree.{Named, Primitive, PrimitiveDeclaration, output_port, output_register, input_ports, Initial}
use Rattle.elab_model.specs.Hierarchy.{is_empty}

-- the names that a declaration says to be outputs, inputs and regs (8.1.2)
abbrev pub outputs_of : PrimitiveDeclaration → List Named
outputs_of (output_port p register n) = n ∷ []
outputs_of (output_register p n) = []
outputs_of (input_ports p ns) = []

abbrev pub inputs_of : PrimitiveDeclaration → List Named
inputs_of (output_port p register n) = []
inputs_of (output_register p n) = []
inputs_of (input_ports p ns) = ns

abbrev pub regs_of : PrimitiveDeclaration → List Named
regs_of (output_port p true n) = n ∷ []
regs_of (output_port p false n) = []
regs_of (output_register p n) = n ∷ []
regs_of (input_ports p ns) = []

abbrev pub outputs : Primitive → List Named
outputs p = flat_map outputs_of p.declarations

abbrev pub inputs : Primitive → List Named
inputs p = flat_map inputs_of p.declarations

abbrev pub regs : Primitive → List Named
regs p = flat_map regs_of p.declarations

-- a primitive is sequential where its output is a reg (8.1.2)
abbrev pub is_sequential : Primitive → Bool
is_sequential p = not (is_empty (regs p))

-- all ports but the first are inputs (8.1.1)
abbrev pub input_count : Primitive → ℕ
input_count p = length p.ports - 1

abbrev pub table_of : Primitive → table
table_of p = record { inputs = input_count p; sequential = is_sequential p; rows = p.rows }

-- the state before time 0: x where nothing says it (8.1.3, 8.5)
abbrev pub initial_value : Option Initial → Value
initial_value None = X
initial_value (Some i) = i.value
