-- Supplies, regs, assignments, and constants at ports.
use Rattle.std.specs.Prelude.{◌≡◌, [], ◌∷◌, Some, None, refl, codes, pos}
use Rattle.sg_circuit.specs.Circuit.{Gate, Pass}
use Rattle.sg_circuit.specs.declared.nets.Driver.TheVariants as driver
use Rattle.sg_delay.specs.declared.corners.Corner.TheVariants.{Typ}
use Rattle.sg_logic.specs.declared.gates.GateKind.TheVariants.{And}
use Rattle.sg_logic.specs.declared.values.Value.TheVariants.{Zero, One}
use Rattle.vl_tree.specs.declared.names.Direction.TheVariants.{Output}
use Rattle.vl_tree.specs.declared.names.Supply.TheVariants as level
use Rattle.vl_tree.specs.Tree.{supplies, Module, a_module}
use Rattle.circuit_model.specs.Circuits.{circuit}
use Rattle.elab_model.specs.Elements.{leg_kind}
use Rattle.circuit_model.specs.Faults.{faults}
use Rattle.circuit_model.proofs.Writing.{here, name, use_of, bit_of, constant_of, braces, range, port_item, net_name, wire_item, reg_item, assign_item, instance_item, in_order_of, plainly, module_as, listing, net, element}
use Rattle.circuit_model.proofs.HierarchyExamples.{cell, middle}

-- module s (q); output [1:0] q; supply1 v; wire n = 1'b0; reg r; assign {q[0], q[1]} = {v, n}; m i (w, 1'b1); endmodule
abbrev pub sources : Module
sources =
    module_as plainly (codes "s") 400 (listing (name (codes "q") 401 ∷ []))
    (port_item Output (range (pos 1) (pos 0)) (name (codes "q") 402 ∷ [])
    ∷ supplies (here 0) level.One None (name (codes "v") 403 ∷ [])
    ∷ wire_item None (net_name (name (codes "n") 404) (Some (constant_of 405 (Zero ∷ []))) ∷ [])
    ∷ reg_item (name (codes "r") 406 ∷ [])
    ∷ assign_item 407 (braces 407 (bit_of (codes "q") 408 (pos 0) ∷ bit_of (codes "q") 409 (pos 1) ∷ [])) (braces 410 (use_of (codes "v") 411 ∷ use_of (codes "n") 412 ∷ []))
    ∷ instance_item (codes "m") 414 (codes "i") (in_order_of (use_of (codes "w") 415 ∷ constant_of 416 (One ∷ []) ∷ []))
    ∷ [])

-- a constant at a port of a module that is no leaf drives the net of the child's variable
sources_nets : (circuit (a_module cell ∷ a_module middle ∷ a_module sources ∷ []) sources Typ).nets ≡
    net 0 (codes "q") (Some (pos 1)) (driver.Element 3)
    ∷ net 0 (codes "q") (Some (pos 0)) (driver.Element 2)
    ∷ net 0 (codes "v") None (driver.Element 0)
    ∷ net 0 (codes "n") None (driver.Element 1)
    ∷ net 0 (codes "r") None driver.Notifier
    ∷ net 0 (codes "w") None (driver.Element 7)
    ∷ net 1 (codes "d") None (driver.Element 4)
    ∷ net 1 (codes "B") None driver.Nobody
    ∷ net 2 (codes "A") None (driver.Element 5)
    ∷ net 2 (codes "B") None (driver.Element 6) ∷ []
sources_nets = refl

sources_elements : (circuit (a_module cell ∷ a_module middle ∷ a_module sources ∷ []) sources Typ).elements ≡
    element 0 [] 2 (Pass (Some One))
    ∷ element 0 [] 3 (Pass (Some Zero))
    ∷ element 0 (2 ∷ []) 1 (Pass None)
    ∷ element 0 (3 ∷ []) 0 (Pass None)
    ∷ element 0 [] 6 (Pass (Some One))
    ∷ element 2 (6 ∷ []) 8 leg_kind
    ∷ element 2 (7 ∷ []) 9 leg_kind
    ∷ element 2 (8 ∷ 9 ∷ []) 5 (Gate And []) ∷ []
sources_elements = refl

sources_faults : faults (a_module cell ∷ a_module middle ∷ a_module sources ∷ []) None Typ ≡ []
sources_faults = refl
