-- A hierarchy: a cell, a module that wires its port on, and a top.
use Rattle.std.specs.Prelude.{◌≡◌, ℕ, List, [], ◌∷◌, true, false, Some, None, refl, codes, pos, negsuc}
use Rattle.sg_circuit.specs.Circuit.{Kind, Gate, Pass, Element, Circuit}
use Rattle.sg_circuit.specs.declared.nets.Net.{Net}
use Rattle.sg_circuit.specs.declared.nets.Driver.TheVariants as driver
use Rattle.sg_circuit.specs.declared.scopes.Port.TheVariants as port
use Rattle.sg_delay.specs.declared.corners.Corner.TheVariants.{Typ}
use Rattle.sg_logic.specs.declared.gates.GateKind.TheVariants.{And}
use Rattle.sg_logic.specs.declared.values.Value.TheVariants.{One}
use Rattle.vl_tree.specs.declared.names.Direction.TheVariants.{Input, Output}
use Rattle.vl_tree.specs.Tree.{Connections, by_order, one_number, by_name, Module, a_module, Source}
use Rattle.circuit_model.specs.Circuits.{circuit}
use Rattle.elab_model.specs.Elements.{leg_kind}
use Rattle.circuit_model.specs.Faults.{faults}
use Rattle.circuit_model.proofs.Writing.{here, name, use_of, bit_of, constant_of, range, port_item, gate_with, gate_item, instance_item, in_order_of, to_port, plainly, as_cell, module_as, listing, net, element, variable, vector, scope}

-- a cell: module c (Y, A, B); output Y; input A, B; and (Y, A, B); endmodule
abbrev pub cell : Module
cell =
    module_as as_cell (codes "c") 100 (listing (name (codes "Y") 101 ∷ name (codes "A") 102 ∷ name (codes "B") 103 ∷ []))
    (port_item Output None (name (codes "Y") 104 ∷ [])
    ∷ port_item Input None (name (codes "A") 105 ∷ name (codes "B") 106 ∷ [])
    ∷ gate_item And 107 (use_of (codes "Y") 108 ∷ use_of (codes "A") 109 ∷ use_of (codes "B") 110 ∷ [])
    ∷ [])

-- module m (q, d); output q; input d; c u (.A(d), .Y(q)); endmodule
abbrev pub middle : Module
middle =
    module_as plainly (codes "m") 200 (listing (name (codes "q") 201 ∷ name (codes "d") 202 ∷ []))
    (port_item Output None (name (codes "q") 203 ∷ [])
    ∷ port_item Input None (name (codes "d") 204 ∷ [])
    ∷ instance_item (codes "c") 206 (codes "u") (by_name (to_port (codes "A") 207 (Some (use_of (codes "d") 208)) ∷ to_port (codes "Y") 209 (Some (use_of (codes "q") 210)) ∷ []))
    ∷ [])

-- module top (a, q); input a; output [1:0] q; m i (q[1], a); c k (q[0], 1'b1, w); endmodule
abbrev pub above : Module
above =
    module_as plainly (codes "top") 300 (listing (name (codes "a") 301 ∷ name (codes "q") 302 ∷ []))
    (port_item Input None (name (codes "a") 303 ∷ [])
    ∷ port_item Output (range (pos 1) (pos 0)) (name (codes "q") 304 ∷ [])
    ∷ instance_item (codes "m") 306 (codes "i") (in_order_of (bit_of (codes "q") 307 (pos 1) ∷ use_of (codes "a") 308 ∷ []))
    ∷ instance_item (codes "c") 310 (codes "k") (in_order_of (bit_of (codes "q") 311 (pos 0) ∷ constant_of 312 (One ∷ []) ∷ use_of (codes "w") 313 ∷ []))
    ∷ [])

-- the nets: a, q[1], q[0] and w of the top, the constant outside k's A; what is outside i.u's B; i.u's A and B, k's A and B
abbrev pub above_circuit : Circuit
above_circuit = record {
  tick = negsuc 8;
  nets =
      net 0 (codes "a") None driver.Stimulus
      ∷ net 0 (codes "q") (Some (pos 1)) (driver.Element 3)
      ∷ net 0 (codes "q") (Some (pos 0)) (driver.Element 6)
      ∷ net 0 (codes "w") None driver.Nobody
      ∷ net 0 (codes "A") None (driver.Element 0)
      ∷ net 1 (codes "B") None driver.Nobody
      ∷ net 2 (codes "A") None (driver.Element 1)
      ∷ net 2 (codes "B") None (driver.Element 2)
      ∷ net 3 (codes "A") None (driver.Element 4)
      ∷ net 3 (codes "B") None (driver.Element 5) ∷ [];
  elements =
      element 0 [] 4 (Pass (Some One))
      ∷ element 2 (0 ∷ []) 6 leg_kind
      ∷ element 2 (5 ∷ []) 7 leg_kind
      ∷ element 2 (6 ∷ 7 ∷ []) 1 (Gate And [])
      ∷ element 3 (4 ∷ []) 8 leg_kind
      ∷ element 3 (3 ∷ []) 9 leg_kind
      ∷ element 3 (8 ∷ 9 ∷ []) 2 (Gate And []) ∷ [];
  checks = [];
  check_timings = [];
  check_conditions = [];
  scopes =
      scope None (codes "top") (codes "top") false (variable (codes "a") port.Input (0 ∷ []) ∷ vector (codes "q") (pos 1) (pos 0) port.Output (1 ∷ 2 ∷ []) ∷ variable (codes "w") port.Inner (3 ∷ []) ∷ [])
      ∷ scope (Some 0) (codes "i") (codes "m") false (variable (codes "q") port.Output (1 ∷ []) ∷ variable (codes "d") port.Input (0 ∷ []) ∷ [])
      ∷ scope (Some 1) (codes "u") (codes "c") true (variable (codes "Y") port.Output (1 ∷ []) ∷ variable (codes "A") port.Input (6 ∷ []) ∷ variable (codes "B") port.Input (7 ∷ []) ∷ [])
      ∷ scope (Some 0) (codes "k") (codes "c") true (variable (codes "Y") port.Output (2 ∷ []) ∷ variable (codes "A") port.Input (8 ∷ []) ∷ variable (codes "B") port.Input (9 ∷ []) ∷ []) ∷ [];
  zeroed = [];
  udps = [];
}

hierarchy : circuit (a_module cell ∷ a_module middle ∷ a_module above ∷ []) above Typ ≡ above_circuit
hierarchy = refl

hierarchy_faults : faults (a_module cell ∷ a_module middle ∷ a_module above ∷ []) None Typ ≡ []
hierarchy_faults = refl

-- three scales of time in one hierarchy: the tick is the least precision, and a delay is rounded to its own module's
abbrev pub with_scale : Module → (unit precision : ℕ) → Module
with_scale m u p = module_as (record { scale = record { unit = negsuc u; precision = negsuc p }; cell = m.settings.cell; implicit = m.settings.implicit }) m.name.text m.name.place.byte m.head m.items

-- 1 ns / 10 ps with #1.256, in modules of 1 ns / 1 ns and 1 ns / 1 ps
abbrev pub slow_cell : Module
slow_cell =
    module_as (record { scale = record { unit = negsuc 8; precision = negsuc 10 }; cell = true; implicit = true }) (codes "c") 100 cell.head
    (port_item Output None (name (codes "Y") 104 ∷ [])
    ∷ port_item Input None (name (codes "A") 105 ∷ name (codes "B") 106 ∷ [])
    ∷ gate_with And (Some (record { place = here 120; values = one_number (record { negative = false; digits = 1256; exponent = negsuc 2 }) ∷ [] })) 107 (use_of (codes "Y") 108 ∷ use_of (codes "A") 109 ∷ use_of (codes "B") 110 ∷ [])
    ∷ [])

abbrev pub scales : Source
scales = a_module slow_cell ∷ a_module (with_scale middle 8 8) ∷ a_module (with_scale above 8 11) ∷ []

least_precision : (circuit scales (with_scale above 8 11) Typ).tick ≡ negsuc 11
least_precision = refl

-- 1.256 ns is 1.26 ns in 10 ps, and so 1260 ps
abbrev pub kinds : List Element → List Kind
kinds [] = []
kinds (e ∷ es) = e.kind ∷ kinds es

rounded_delay : kinds (circuit scales (with_scale above 8 11) Typ).elements ≡
    Pass (Some One) ∷ leg_kind ∷ leg_kind ∷ Gate And (1260 ∷ []) ∷ leg_kind ∷ leg_kind ∷ Gate And (1260 ∷ []) ∷ []
rounded_delay = refl

-- module e (a, q); input a; output q; c k (.Y(q), .A(), .B(a)); endmodule; and the same by order: c k (q, , a);
abbrev pub with_gap : Connections → Module
with_gap cs =
    module_as plainly (codes "e") 7 (listing (name (codes "a") 10 ∷ name (codes "q") 11 ∷ []))
    (port_item Input None (name (codes "a") 20 ∷ []) ∷ port_item Output None (name (codes "q") 21 ∷ []) ∷ instance_item (codes "c") 30 (codes "k") cs ∷ [])

abbrev pub gap_by_name : Module
gap_by_name = with_gap (by_name (to_port (codes "Y") 31 (Some (use_of (codes "q") 32)) ∷ to_port (codes "A") 33 None ∷ to_port (codes "B") 34 (Some (use_of (codes "a") 35)) ∷ []))

abbrev pub gap_in_order : Module
gap_in_order = with_gap (by_order (Some (use_of (codes "q") 31) ∷ None ∷ Some (use_of (codes "a") 32) ∷ []))

-- a, q, what is outside k's A; then k's A and B
abbrev pub gap_nets : List Net
gap_nets =
    net 0 (codes "a") None driver.Stimulus
    ∷ net 0 (codes "q") None (driver.Element 2)
    ∷ net 0 (codes "A") None driver.Nobody
    ∷ net 1 (codes "A") None (driver.Element 0)
    ∷ net 1 (codes "B") None (driver.Element 1) ∷ []

abbrev pub gap_elements : List Element
gap_elements = element 1 (2 ∷ []) 3 leg_kind ∷ element 1 (0 ∷ []) 4 leg_kind ∷ element 1 (3 ∷ 4 ∷ []) 1 (Gate And []) ∷ []

by_name_nets : (circuit (a_module cell ∷ a_module gap_by_name ∷ []) gap_by_name Typ).nets ≡ gap_nets
by_name_nets = refl

by_name_elements : (circuit (a_module cell ∷ a_module gap_by_name ∷ []) gap_by_name Typ).elements ≡ gap_elements
by_name_elements = refl

in_order_nets : (circuit (a_module cell ∷ a_module gap_in_order ∷ []) gap_in_order Typ).nets ≡ gap_nets
in_order_nets = refl

in_order_elements : (circuit (a_module cell ∷ a_module gap_in_order ∷ []) gap_in_order Typ).elements ≡ gap_elements
in_order_elements = refl

gap_faults : faults (a_module cell ∷ a_module gap_by_name ∷ []) None Typ ≡ []
gap_faults = refl
