-- One inverter, gates with several outputs, delays by corner.
use Rattle.std.specs.Prelude.{◌≡◌, [], ◌∷◌, false, Some, None, refl, codes, negsuc}
use Rattle.sg_circuit.specs.Circuit.{Gate, Pass}
use Rattle.sg_circuit.specs.declared.nets.Driver.TheVariants as driver
use Rattle.sg_circuit.specs.declared.scopes.Port.TheVariants as port
use Rattle.sg_delay.specs.declared.corners.Corner.TheVariants.{Min, Typ, Max}
use Rattle.sg_logic.specs.declared.gates.GateKind.TheVariants.{And, Buf, Not}
use Rattle.sg_logic.specs.declared.values.Value.TheVariants.{Zero, One}
use Rattle.vl_tree.specs.declared.names.Direction.TheVariants.{Input, Output}
use Rattle.vl_tree.specs.Tree.{one_number, three_numbers, Module, a_module}
use Rattle.circuit_model.specs.Circuits.{circuit}
use Rattle.circuit_model.specs.Faults.{faults}
use Rattle.circuit_model.proofs.Writing.{here, name, use_of, constant_of, port_item, gate_with, gate_item, whole_number, plainly, module_as, listing, net, element, variable, scope}

-- module t (a, y); input a; output y; not (y, a); endmodule
abbrev pub inverter : Module
inverter =
    module_as plainly (codes "t") 7 (listing (name (codes "a") 10 ∷ name (codes "y") 13 ∷ []))
    (port_item Input None (name (codes "a") 23 ∷ [])
    ∷ port_item Output None (name (codes "y") 33 ∷ [])
    ∷ gate_item Not 40 (use_of (codes "y") 41 ∷ use_of (codes "a") 44 ∷ [])
    ∷ [])

inverter_circuit : circuit (a_module inverter ∷ []) inverter Typ ≡ record {
  tick = negsuc 8;
  nets = net 0 (codes "a") None driver.Stimulus ∷ net 0 (codes "y") None (driver.Element 0) ∷ [];
  elements = element 0 (0 ∷ []) 1 (Gate Not []) ∷ [];
  checks = [];
  check_timings = [];
  check_conditions = [];
  scopes = scope None (codes "t") (codes "t") false (variable (codes "a") port.Input (0 ∷ []) ∷ variable (codes "y") port.Output (1 ∷ []) ∷ []) ∷ [];
  zeroed = [];
  udps = [];
}
inverter_circuit = refl

inverter_faults : faults (a_module inverter ∷ []) None Typ ≡ []
inverter_faults = refl

-- module g (y, z, a); output y, z; input a; buf #(1:2:3, 4) (y, z, 1'b1); and #5 (w, a, 1'b0, v); endmodule
abbrev pub several : Module
several =
    module_as plainly (codes "g") 7 (listing (name (codes "y") 10 ∷ name (codes "z") 11 ∷ name (codes "a") 13 ∷ []))
    (port_item Output None (name (codes "y") 23 ∷ name (codes "z") 24 ∷ [])
    ∷ port_item Input None (name (codes "a") 33 ∷ [])
    ∷ gate_with Buf (Some (record { place = here 40; values = three_numbers (whole_number 1) (whole_number 2) (whole_number 3) ∷ one_number (whole_number 4) ∷ [] })) 41 (use_of (codes "y") 42 ∷ use_of (codes "z") 43 ∷ constant_of 44 (One ∷ []) ∷ [])
    ∷ gate_with And (Some (record { place = here 50; values = one_number (whole_number 5) ∷ [] })) 51 (use_of (codes "w") 52 ∷ use_of (codes "a") 53 ∷ constant_of 54 (Zero ∷ []) ∷ use_of (codes "v") 55 ∷ [])
    ∷ [])

-- variables: y, z, a, then w and v by first use; then the constants, named as the first outputs
several_nets : (circuit (a_module several ∷ []) several Typ).nets ≡
    net 0 (codes "y") None (driver.Element 0)
    ∷ net 0 (codes "z") None (driver.Element 1)
    ∷ net 0 (codes "a") None driver.Stimulus
    ∷ net 0 (codes "w") None (driver.Element 3)
    ∷ net 0 (codes "v") None driver.Nobody
    ∷ net 0 (codes "y") None (driver.Element 2)
    ∷ net 0 (codes "w") None (driver.Element 4) ∷ []
several_nets = refl

-- an element for each output, then the Pass of each constant
several_elements : (circuit (a_module several ∷ []) several Max).elements ≡
    element 0 (5 ∷ []) 0 (Gate Buf (3 ∷ 4 ∷ []))
    ∷ element 0 (5 ∷ []) 1 (Gate Buf (3 ∷ 4 ∷ []))
    ∷ element 0 [] 5 (Pass (Some One))
    ∷ element 0 (2 ∷ 6 ∷ 4 ∷ []) 3 (Gate And (5 ∷ []))
    ∷ element 0 [] 6 (Pass (Some Zero)) ∷ []
several_elements = refl

several_faults : faults (a_module several ∷ []) (Some (codes "g")) Min ≡ []
several_faults = refl
