-- Vectors in both directions, concatenations and parts, on both sides and at ports.
use Rattle.std.specs.Prelude.{◌≡◌, [], ◌∷◌, true, false, Some, None, refl, codes, pos}
use Rattle.sg_circuit.specs.Circuit.{Pass}
use Rattle.sg_circuit.specs.declared.nets.Driver.TheVariants as driver
use Rattle.sg_circuit.specs.declared.scopes.Port.TheVariants as port
use Rattle.sg_delay.specs.declared.corners.Corner.TheVariants.{Typ}
use Rattle.vl_tree.specs.declared.names.Direction.TheVariants.{Input, Output}
use Rattle.vl_tree.specs.Tree.{declared_port, named_port, head_declarations, Module, a_module}
use Rattle.circuit_model.specs.Circuits.{circuit}
use Rattle.elab_model.specs.Elements.{leg_kind}
use Rattle.circuit_model.specs.Faults.{faults}
use Rattle.circuit_model.proofs.Writing.{name, use_of, part_of, braces, range, assign_item, instance_item, in_order_of, plainly, module_as, declared, net, element, variable, vector, scope}

-- module v (input [0:1] a, b, output [1:0] y); assign y = a[1:0]; e k ({z, w}, b); endmodule
-- module e (output [5:4] o, input [1:0] i); endmodule
abbrev pub end_cell : Module
end_cell =
    module_as plainly (codes "e") 100 (Some (Some (head_declarations (declared Output (range (pos 5) (pos 4)) (name (codes "o") 101)) (declared_port (declared Input (range (pos 1) (pos 0)) (name (codes "i") 102)) ∷ [])))) []

abbrev pub vectors : Module
vectors =
    module_as plainly (codes "v") 7 (Some (Some (head_declarations (declared Input (range (pos 0) (pos 1)) (name (codes "a") 10)) (named_port (name (codes "b") 11) ∷ declared_port (declared Output (range (pos 1) (pos 0)) (name (codes "y") 12)) ∷ []))))
    (assign_item 20 (part_of (codes "y") 21 (pos 1) (pos 0)) (part_of (codes "a") 22 (pos 1) (pos 0))
    ∷ instance_item (codes "e") 30 (codes "k") (in_order_of (braces 31 (use_of (codes "z") 32 ∷ use_of (codes "w") 33 ∷ []) ∷ use_of (codes "b") 34 ∷ []))
    ∷ [])

-- y[1] takes a[1], the right bit of a; k's o is z and w, and its i has Legs from b[0] and b[1]
vectors_nets : (circuit (a_module end_cell ∷ a_module vectors ∷ []) vectors Typ).nets ≡
    net 0 (codes "a") (Some (pos 0)) driver.Stimulus
    ∷ net 0 (codes "a") (Some (pos 1)) driver.Stimulus
    ∷ net 0 (codes "b") (Some (pos 0)) driver.Stimulus
    ∷ net 0 (codes "b") (Some (pos 1)) driver.Stimulus
    ∷ net 0 (codes "y") (Some (pos 1)) (driver.Element 0)
    ∷ net 0 (codes "y") (Some (pos 0)) (driver.Element 1)
    ∷ net 0 (codes "z") None driver.Nobody
    ∷ net 0 (codes "w") None driver.Nobody
    ∷ net 1 (codes "i") (Some (pos 1)) (driver.Element 2)
    ∷ net 1 (codes "i") (Some (pos 0)) (driver.Element 3) ∷ []
vectors_nets = refl

vectors_elements : (circuit (a_module end_cell ∷ a_module vectors ∷ []) vectors Typ).elements ≡
    element 0 (1 ∷ []) 4 (Pass None)
    ∷ element 0 (0 ∷ []) 5 (Pass None)
    ∷ element 1 (2 ∷ []) 8 leg_kind
    ∷ element 1 (3 ∷ []) 9 leg_kind ∷ []
vectors_elements = refl

vectors_scopes : (circuit (a_module end_cell ∷ a_module vectors ∷ []) vectors Typ).scopes ≡
    scope None (codes "v") (codes "v") false (vector (codes "a") (pos 0) (pos 1) port.Input (0 ∷ 1 ∷ []) ∷ vector (codes "b") (pos 0) (pos 1) port.Input (2 ∷ 3 ∷ []) ∷ vector (codes "y") (pos 1) (pos 0) port.Output (4 ∷ 5 ∷ []) ∷ variable (codes "z") port.Inner (6 ∷ []) ∷ variable (codes "w") port.Inner (7 ∷ []) ∷ [])
    ∷ scope (Some 0) (codes "k") (codes "e") true (vector (codes "o") (pos 5) (pos 4) port.Output (6 ∷ 7 ∷ []) ∷ vector (codes "i") (pos 1) (pos 0) port.Input (8 ∷ 9 ∷ []) ∷ []) ∷ []
vectors_scopes = refl

vectors_faults : faults (a_module end_cell ∷ a_module vectors ∷ []) None Typ ≡ []
vectors_faults = refl
