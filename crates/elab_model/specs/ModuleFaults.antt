-- Faults of a module's members, and all faults of a module.
use Rattle.std.specs.Prelude.{ℕ, List, [], ◌∷◌, ◌++◌, Bool, false, ◌&&◌, not, ◌==◌, nat_lt, nat_le, Option, Some, None, length, map, flat_map, zip, ℤ}
use Rattle.std.specs.List.{list_any}
use Rattle.sg_circuit.specs.Closed.{width_of}
use Rattle.sg_circuit.specs.declared.scopes.Port.{Port}
use Rattle.sg_circuit.specs.declared.scopes.Port.TheVariants as port
use Rattle.sg_circuit.specs.Corner.{Corner}
use Rattle.sg_logic.specs.Gate.{most_delays}
use Rattle.sg_logic.specs.declared.gates.GateKind.{GateKind}
use Rattle.sg_logic.specs.declared.gates.GateKind.TheVariants.{Bufif0, Bufif1, Notif0, Notif1}
use Rattle.sg_text.specs.declared.places.Place.{Place}
use Rattle.vl_tree.specs.Tree.{Named, Expression, Delay, Connections, by_order, by_name, Instance as instance_text, Part, a_module, a_primitive, Primitive, Module, Source}
use Rattle.elab_model.specs.declared.kinds.ElabKind.TheVariants.{UnknownModule, UnknownName, BadTerminal, BadDelay}
use Rattle.elab_model.specs.Members.{Member, assignment, supply, gate, instance, path, check, members, member_values, connection_values}
use Rattle.elab_model.specs.Definitions.{definition_of}
use Rattle.elab_model.specs.Ports.{port_list, port_names}
use Rattle.elab_model.specs.Names.{Variable, variables, variable, is_among}
use Rattle.elab_model.specs.Elements.{output_count}
use Rattle.elab_model.specs.Faults.{Fault, fault, fault_if, duplicates}
use Rattle.elab_model.specs.NameFaults.{declaration_faults}
use Rattle.elab_model.specs.TerminalFaults.{expression_faults, width_faults, constant_faults, assignment_faults, terminal_faults, delay_faults, is_missing}
use Rattle.elab_model.specs.PrimitiveFaults.{primitive_faults}

-- what is connected to a port that has a direction: it has the port's width, and is no constant where the port is an output
abbrev pub directed_faults : List Variable → Port → (width : ℕ) → Expression → List Fault
directed_faults vs port.Input w e = width_faults vs w e
directed_faults vs port.Output w e = width_faults vs w e ++ constant_faults vs e
directed_faults vs port.Inner w e = []

abbrev pub value_faults : List Variable → Variable → Option Expression → List Fault
value_faults vs v None = []
value_faults vs v (Some e) = directed_faults vs v.port (width_of v.range) e

abbrev pub port_faults : List Variable → Module → Named → Option Expression → List Fault
port_faults vs m n e = fault_if (not (is_among n.text (port_names m))) UnknownName n.place ++ value_faults vs (variable m n.text) e

-- by order there are no more than ports; by name each port is connected once (12.3.5, 12.3.6)
abbrev pub connection_faults : List Variable → Module → Place → Connections → List Fault
connection_faults vs m p (by_order es) =
    fault_if (nat_lt (length (port_list m)) (length es)) BadTerminal p ++ flat_map (λ x. port_faults vs m x.0 x.1) (zip (port_list m) es)
connection_faults vs m p (by_name cs) = duplicates (map (λ c. c.port) cs) ++ flat_map (λ c. port_faults vs m c.port c.value) cs

-- an instance of a module has a name and no delay (12.1.2)
abbrev pub delay_on_module : Option Delay → List Fault
delay_on_module None = []
delay_on_module (Some d) = fault BadDelay d.place ∷ []

abbrev pub module_instance_faults : List Variable → Module → Option Delay → instance_text → List Fault
module_instance_faults vs m d i =
    fault_if (is_missing i.name) BadTerminal i.place ++ (delay_on_module d ++ connection_faults vs m i.place i.connections)

-- an instance of a primitive has a terminal for each port, by order, and two delays at most (8.6)
abbrev pub are_terminals : Primitive → Connections → Bool
are_terminals p (by_order es) = not (list_any is_missing es) && (length es == length p.ports)
are_terminals p (by_name cs) = false

abbrev pub primitive_instance_faults : Corner → ℤ → Module → List Variable → Primitive → Option Delay → instance_text → List Fault
primitive_instance_faults corner tick m vs p d i =
    fault_if (not (are_terminals p i.connections)) BadTerminal i.place
    ++ (terminal_faults vs 1 (connection_values i.connections) ++ (delay_faults 2 corner tick m d ++ primitive_faults p))

abbrev pub instance_faults : Corner → ℤ → Module → List Variable → Option Delay → instance_text → Option Part → List Fault
instance_faults corner tick m vs d i None = fault UnknownModule i.place ∷ []
instance_faults corner tick m vs d i (Some (a_module n)) = module_instance_faults vs n d i
instance_faults corner tick m vs d i (Some (a_primitive p)) = primitive_instance_faults corner tick m vs p d i

-- a gate has an output and an input at least (7.2, 7.3); one that its control turns off has an output, an input and the control (7.4)
abbrev pub takes_terminals : GateKind → ℕ → Bool
takes_terminals Bufif0 terminals = terminals == 3
takes_terminals Bufif1 terminals = terminals == 3
takes_terminals Notif0 terminals = terminals == 3
takes_terminals Notif1 terminals = terminals == 3
takes_terminals _ terminals = nat_le 2 terminals

abbrev pub member_faults : Source → Corner → ℤ → Module → List Variable → Member → List Fault
member_faults source corner tick m vs (assignment j) = assignment_faults vs j
member_faults source corner tick m vs (supply n v) = []
member_faults source corner tick m vs (gate g d i) =
    fault_if (not (takes_terminals g (length i.terminals))) BadTerminal i.place
    ++ (terminal_faults vs (output_count g (length i.terminals)) i.terminals ++ delay_faults (most_delays g) corner tick m d)
member_faults source corner tick m vs (instance n d i) = instance_faults corner tick m vs d i (definition_of source n.text)
member_faults source corner tick m vs (path p) = []
-- a delayed copy is one bit (15.8)
member_faults source corner tick m vs (check c) = flat_map (width_faults vs 1) (member_values (check c))

-- the names and the indices in a member, and the member itself
abbrev pub all_member_faults : Source → Corner → ℤ → Module → Member → List Fault
all_member_faults source corner tick m i =
    flat_map (expression_faults (variables m)) (member_values i) ++ member_faults source corner tick m (variables m) i

abbrev pub module_faults : Source → Corner → ℤ → Module → List Fault
module_faults source corner tick m = declaration_faults m ++ flat_map (all_member_faults source corner tick m) (members m)
