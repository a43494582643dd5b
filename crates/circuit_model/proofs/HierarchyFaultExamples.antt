-- Faults of instances, tops and levels, each refused and nearly so.
use Rattle.std.specs.Prelude.{◌≡◌, ℕ, List, [], ◌∷◌, ◌++◌, Some, None, refl, codes, flat_map, map, pos}
use Rattle.vl_tree.specs.declared.names.Direction.TheVariants.{Input, Output}
use Rattle.sg_delay.specs.declared.corners.Corner.TheVariants.{Typ}
use Rattle.sg_logic.specs.declared.gates.GateKind.TheVariants.{Buf}
use Rattle.sg_logic.specs.declared.values.Value.TheVariants.{Zero}
use Rattle.vl_tree.specs.Tree.{one_number, by_order, by_name, Item, instances, Module, a_module, Source}
use Rattle.elab_model.specs.declared.kinds.ElabKind.TheVariants.{UnknownModule, DuplicateName, UnknownName, WidthMismatch, SecondDriver, SelfInstance, NoTop, SeveralTops, SpecifyInHierarchy, BadTerminal, TooDeep, BadDelay}
use Rattle.elab_model.specs.Faults.{fault}
use Rattle.circuit_model.specs.Faults.{faults}
use Rattle.elab_model.specs.HierarchyFaults.{start}
use Rattle.circuit_model.proofs.Writing.{port_item, listing, range, wire_item, net_name, reg_item, as_cell, here, name, use_of, bit_of, constant_of, gate_item, instance_item, term, width_item, block_item, in_order_of, to_port, whole_number, plainly, module_as}
use Rattle.elab_model.specs.Hierarchy.{Instance, top_instance, children}
use Rattle.elab_model.specs.HierarchyFaults.{self_instances, past_limit, first_too_deep}
use Rattle.circuit_model.proofs.GateExamples.{inverter}
use Rattle.circuit_model.proofs.HierarchyExamples.{cell}
use Rattle.circuit_model.proofs.NameFaultExamples.{with_items, alone}

-- NOPE u ();
unknown_module : faults (alone (instance_item (codes "NOPE") 61 (codes "u") (by_order []) ∷ [])) None Typ ≡ fault UnknownModule (here 61) ∷ []
unknown_module = refl

-- c u (); with a cell c, nothing connected
abbrev pub with_cell : List Item → Source
with_cell items = a_module cell ∷ a_module (with_items items) ∷ []

known_module : faults (with_cell (instance_item (codes "c") 61 (codes "u") (by_order []) ∷ [])) None Typ ≡ []
known_module = refl

-- c u (.Y(y), .Y(w)); c u (.N(y)); c u (y, a, a, a); c u (1'b0), whose output is also driven by the cell;
port_twice : faults (with_cell (instance_item (codes "c") 61 (codes "u") (by_name (to_port (codes "Y") 62 (Some (use_of (codes "y") 63)) ∷ to_port (codes "Y") 64 (Some (use_of (codes "w") 65)) ∷ [])) ∷ [])) None Typ ≡ fault DuplicateName (here 64) ∷ []
port_twice = refl

no_such_port : faults (with_cell (instance_item (codes "c") 61 (codes "u") (by_name (to_port (codes "N") 62 (Some (use_of (codes "y") 63)) ∷ [])) ∷ [])) None Typ ≡ fault UnknownName (here 62) ∷ []
no_such_port = refl

too_many_ports : faults (with_cell (instance_item (codes "c") 61 (codes "u") (in_order_of (use_of (codes "y") 62 ∷ use_of (codes "a") 63 ∷ use_of (codes "a") 64 ∷ use_of (codes "a") 65 ∷ [])) ∷ [])) None Typ ≡ fault BadTerminal (here 61) ∷ []
too_many_ports = refl

constant_output : faults (with_cell (instance_item (codes "c") 61 (codes "u") (in_order_of (constant_of 62 (Zero ∷ []) ∷ [])) ∷ [])) None Typ ≡ fault BadTerminal (here 62) ∷ fault SecondDriver (here 107) ∷ []
constant_output = refl

-- c #1 u (); and c ();
delayed_module : faults (with_cell (instances (name (codes "c") 60) (Some (record { place = here 61; values = one_number (whole_number 1) ∷ [] })) (record { place = here 62; name = Some (name (codes "u") 62); connections = by_order [] } ∷ []) ∷ [])) None Typ ≡ fault BadDelay (here 61) ∷ []
delayed_module = refl

unnamed_module : faults (with_cell (instances (name (codes "c") 60) None (record { place = here 62; name = None; connections = by_order [] } ∷ []) ∷ [])) None Typ ≡ fault BadTerminal (here 62) ∷ []
unnamed_module = refl

-- a timing check, of a net that the cell hasn't; the cell is reached by an instance, or isn't
abbrev pub cell_with_block : Module
cell_with_block = module_as as_cell (codes "c") 90 None (block_item 94 (width_item 95 (term (codes "w") 96) 1 ∷ []) ∷ [])

reached_block : faults (a_module cell_with_block ∷ a_module (with_items (instance_item (codes "c") 61 (codes "u") (by_order []) ∷ [])) ∷ []) None Typ ≡ fault UnknownName (here 96) ∷ []
reached_block = refl

unreached_block : faults (a_module cell_with_block ∷ a_module (with_items []) ∷ []) None Typ ≡ []
unreached_block = refl

-- two instances u
two_instances : faults (with_cell (instance_item (codes "c") 61 (codes "u") (by_order []) ∷ instance_item (codes "c") 62 (codes "u") (by_order []) ∷ [])) None Typ ≡ fault DuplicateName (here 62) ∷ []
two_instances = refl

-- module t with an instance of t: no candidate; named as the top, the instance closes the round
abbrev pub round : Module
round = with_items (instance_item (codes "t") 61 (codes "u") (by_order []) ∷ [])

no_top : faults (a_module round ∷ []) None Typ ≡ fault NoTop start ∷ []
no_top = refl

closes : self_instances (a_module round ∷ []) (top_instance round) ≡ fault SelfInstance (here 61) ∷ []
closes = refl

-- module t with an instance of s, and s with one of t: the round is closed in s; the t below it says nothing more
abbrev pub longer_round : Source
longer_round =
    a_module (with_items (instance_item (codes "s") 61 (codes "u") (by_order []) ∷ []))
    ∷ a_module (module_as plainly (codes "s") 90 None (instance_item (codes "t") 94 (codes "v") (by_order []) ∷ [])) ∷ []

in_t : self_instances longer_round (top_instance (with_items (instance_item (codes "s") 61 (codes "u") (by_order []) ∷ []))) ≡ []
in_t = refl

in_s : map (self_instances longer_round) (children longer_round (top_instance (with_items (instance_item (codes "s") 61 (codes "u") (by_order []) ∷ [])))) ≡ (fault SelfInstance (here 94) ∷ []) ∷ []
in_s = refl

in_t_again : flat_map (λ s. map (self_instances longer_round) (children longer_round s)) (children longer_round (top_instance (with_items (instance_item (codes "s") 61 (codes "u") (by_order []) ∷ [])))) ≡ [] ∷ []
in_t_again = refl

-- module t and module s, and the same where one is named; a cell is no candidate
abbrev pub renamed : List ℕ → Module
renamed t = module_as plainly t 90 inverter.head inverter.items

two_tops : faults (a_module inverter ∷ a_module (renamed (codes "s")) ∷ []) None Typ ≡ fault SeveralTops start ∷ []
two_tops = refl

one_named : faults (a_module inverter ∷ a_module (renamed (codes "s")) ∷ []) (Some (codes "s")) Typ ≡ []
one_named = refl

cell_beside : faults (a_module inverter ∷ a_module cell ∷ []) None Typ ≡ []
cell_beside = refl

only_a_cell : faults (a_module cell ∷ []) None Typ ≡ fault NoTop start ∷ []
only_a_cell = refl

unknown_top : faults (a_module inverter ∷ []) (Some (codes "u")) Typ ≡ fault NoTop start ∷ []
unknown_top = refl

two_definitions : faults (a_module inverter ∷ a_module (renamed (codes "t")) ∷ []) (Some (codes "t")) Typ ≡ fault DuplicateName (here 90) ∷ []
two_definitions = refl

-- an instance at level 64 has no instance of a module below it, but at level 63 it may
abbrev pub at_level : ℕ → Instance
at_level left = record {
  step = record { definition = with_items (instance_item (codes "c") 61 (codes "u") (by_order []) ∷ []); name = []; place = here 0; member = 0; connections = by_order []; number = 9; levels = left };
  above = [];
}

at_level_64 : first_too_deep (past_limit (with_cell []) (at_level 0)) ≡ fault TooDeep (here 61) ∷ []
at_level_64 = refl

at_level_63 : past_limit (with_cell []) (at_level 1) ≡ []
at_level_63 = refl

-- of two such instances the first is told
both_at_level_64 : first_too_deep (past_limit (with_cell []) (at_level 0) ++ past_limit (with_cell []) (at_level 0)) ≡ fault TooDeep (here 61) ∷ []
both_at_level_64 = refl

-- two leaves drive y: the second driver is the gate of v, where the cell's text has it
two_outputs : faults (with_cell (instance_item (codes "c") 61 (codes "u") (in_order_of (use_of (codes "y") 62 ∷ use_of (codes "a") 63 ∷ use_of (codes "a") 64 ∷ []))
    ∷ instance_item (codes "c") 71 (codes "v") (in_order_of (use_of (codes "y") 72 ∷ use_of (codes "a") 73 ∷ use_of (codes "a") 74 ∷ [])) ∷ [])) None Typ ≡ fault SecondDriver (here 107) ∷ []
two_outputs = refl

-- a vector at a scalar port
wide_connection : faults (with_cell (wire_item (range (pos 1) (pos 0)) (net_name (name (codes "v") 50) None ∷ [])
    ∷ instance_item (codes "c") 61 (codes "u") (by_name (to_port (codes "A") 62 (Some (use_of (codes "v") 63)) ∷ [])) ∷ [])) None Typ ≡ fault WidthMismatch (here 63) ∷ []
wide_connection = refl

-- a vector, connected to a net of the cell that is no port, is no fault of width
wide_at_no_port : faults (with_cell (wire_item (range (pos 1) (pos 0)) (net_name (name (codes "v") 50) None ∷ [])
    ∷ instance_item (codes "c") 61 (codes "u") (by_name (to_port (codes "NO") 62 (Some (use_of (codes "v") 63)) ∷ [])) ∷ [])) None Typ ≡ fault UnknownName (here 62) ∷ []
wide_at_no_port = refl

-- buf (v[1], a); buf (v, a); with a vector v: the second has a terminal of two bits, which drives nothing
wide_output : faults (with_cell (wire_item (range (pos 1) (pos 0)) (net_name (name (codes "v") 50) None ∷ [])
    ∷ gate_item Buf 61 (bit_of (codes "v") 62 (pos 1) ∷ use_of (codes "a") 63 ∷ []) ∷ gate_item Buf 64 (use_of (codes "v") 65 ∷ use_of (codes "a") 66 ∷ []) ∷ [])) None Typ
    ≡ fault WidthMismatch (here 65) ∷ []
wide_output = refl

-- module r (Y, A); output Y; input A; reg A; endmodule: its Leg drives the reg; the place is that of A in the list of ports
abbrev pub reg_cell : Module
reg_cell =
    module_as as_cell (codes "r") 100 (listing (name (codes "Y") 101 ∷ name (codes "A") 102 ∷ []))
    (port_item Output None (name (codes "Y") 104 ∷ []) ∷ port_item Input None (name (codes "A") 105 ∷ []) ∷ reg_item (name (codes "A") 106 ∷ []) ∷ [])

leaf_reg : faults (a_module reg_cell ∷ a_module (with_items (instance_item (codes "r") 61 (codes "u") (in_order_of (use_of (codes "y") 62 ∷ use_of (codes "a") 63 ∷ [])) ∷ [])) ∷ []) None Typ ≡ fault BadTerminal (here 102) ∷ []
leaf_reg = refl

-- a specify block and an instance of a module in one module: the place is the block's
block_beside_instance : faults (with_cell (block_item 50 [] ∷ instance_item (codes "c") 61 (codes "u") (by_order []) ∷ [])) None Typ ≡ fault SpecifyInHierarchy (here 50) ∷ []
block_beside_instance = refl
