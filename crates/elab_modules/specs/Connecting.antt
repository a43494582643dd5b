-- What is looked for in gates, in instances of primitives and in those of modules.
use Rattle.std.specs.Prelude.{◌≡◌, ℕ, List, [], ◌∷◌, ◌++◌, Bool, true, false, not, ◌&&◌, ◌==◌, Option, Some, None, flat_map, filter_map, length, map}
use Rattle.std.specs.List.{list_any}
use Rattle.sg_logic.specs.declared.gates.GateKind.{GateKind}
use Rattle.sg_text.specs.declared.places.Place.{Place}
use Rattle.vl_tree.specs.Tree.{Named, Delay, Expression, NamedConnection, Connections, by_order, by_name, GateInstance, Instance, Module}
use Rattle.elab_model.specs.declared.kinds.ElabKind.TheVariants.{UnknownName, BadTerminal}
use Rattle.elab_model.specs.Elements.{output_count}
use Rattle.elab_model.specs.Faults.{Fault, fault_if, duplicates}
use Rattle.elab_model.specs.Members.{connection_values}
use Rattle.elab_model.specs.ModuleFaults.{value_faults, port_faults, connection_faults, module_instance_faults, takes_terminals}
use Rattle.elab_model.specs.Names.{Variable, variable, is_among}
use Rattle.elab_model.specs.Ports.{port_names}
use Rattle.elab_model.specs.TerminalFaults.{expression_faults, terminal_faults, is_missing}
use Rattle.elab_variables.specs.declared.tables.Row.{Row}
use Rattle.elab_modules.specs.Telling.{is_port, joined_value_faults}
use Rattle.elab_modules.specs.declared.library.Ready as code_ready
use Rattle.elab_modules.specs.declared.library.Ready.TheVariants as ready
use Rattle.elab_modules.specs.declared.prepared.Prepared.{Prepared}

-- ---- gates

abbrev pub gate_faults : List Variable → GateKind → GateInstance → List Fault
gate_faults vs g i =
    flat_map (expression_faults vs) i.terminals
    ++ (fault_if (not (takes_terminals g (length i.terminals))) BadTerminal i.place ++ terminal_faults vs (output_count g (length i.terminals)) i.terminals)

-- ---- instances of primitives

-- no terminal is missing, and there are so many
abbrev pub are_given : ℕ → List (Option Expression) → Bool
are_given count es = not (list_any is_missing es) && (length es == count)

abbrev pub fits_ports : ℕ → Connections → Bool
fits_ports count (by_order es) = are_given count es
fits_ports count (by_name cs) = false

-- an output, and inputs
abbrev pub given_faults : List Variable → List (Option Expression) → List Fault
given_faults vs [] = []
given_faults vs (o ∷ is) = joined_value_faults vs 1 true o ++ flat_map (joined_value_faults vs 1 false) is

abbrev pub terminal_list_faults : List Variable → ℕ → Place → List (Option Expression) → List Fault
terminal_list_faults vs count p es =
    flat_map (expression_faults vs) (filter_map (λ e. e) es) ++ (fault_if (not (are_given count es)) BadTerminal p ++ terminal_faults vs 1 (filter_map (λ e. e) es))

abbrev pub primitive_terminal_faults : List Variable → ℕ → Instance → List Fault
primitive_terminal_faults vs count i =
    flat_map (expression_faults vs) (connection_values i.connections)
    ++ (fault_if (not (fits_ports count i.connections)) BadTerminal i.place ++ terminal_faults vs 1 (connection_values i.connections))

-- ---- instances of modules

-- the variable of a port, if the name is one
abbrev pub IsPortRow : Module → List ℕ → Option Row → Type 0
IsPortRow m n None = is_among n (port_names m) ≡ false
IsPortRow m n (Some r) = (is_among n (port_names m) ≡ true) × ((r.range ≡ (variable m n).range) × ((r.port ≡ (variable m n).port) × (is_port r.port ≡ true)))

-- the faults of an expression that may be missing
abbrev pub own_faults : List Variable → Option Expression → List Fault
own_faults vs None = []
own_faults vs (Some e) = expression_faults vs e

abbrev pub connected_faults : List Variable → Module → Named → Option Expression → List Fault
connected_faults vs m n o =
    fault_if (not (is_among n.text (port_names m))) UnknownName n.place ++ (own_faults vs o ++ value_faults vs (variable m n.text) o)

abbrev pub ordered_faults : List Variable → Module → Place → List (Option Expression) → List Fault
ordered_faults vs m p es = flat_map (expression_faults vs) (filter_map (λ e. e) es) ++ connection_faults vs m p (by_order es)

abbrev pub named_faults : List Variable → Module → List NamedConnection → List Fault
named_faults vs m cs =
    flat_map (expression_faults vs) (filter_map (λ c. c.value) cs) ++ (duplicates (map (λ c. c.port) cs) ++ flat_map (λ c. port_faults vs m c.port c.value) cs)

abbrev pub connections_faults : List Variable → Module → Place → Connections → List Fault
connections_faults vs m p x = flat_map (expression_faults vs) (connection_values x) ++ connection_faults vs m p x

abbrev pub instance_of_module_faults : List Variable → Module → Option Delay → Instance → List Fault
instance_of_module_faults vs m d i = flat_map (expression_faults vs) (connection_values i.connections) ++ module_instance_faults vs m d i

-- ---- what is ready of a definition

-- if it is a module
abbrev pub as_prepared : code_ready.Ready → Option Prepared
as_prepared (ready.Module p) = Some p
as_prepared (ready.Primitive k) = None

abbrev pub prepared_in : Option code_ready.Ready → Option Prepared
prepared_in None = None
prepared_in (Some r) = as_prepared r
