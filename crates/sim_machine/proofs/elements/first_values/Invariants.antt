use Rattle.std.proofs.Common.{◌≡◌, map, take}
use Rattle.sg_circuit.specs.Seen.{kind_seen}
use Rattle.sim_machine.specs.Simulated.{first_of_kind}
use Rattle.sim_machine.proofs.elements.first_values.Given as goal

abbrev pub invariant-loop-element : goal.invariant-loop-element
invariant-loop-element l = l.states.items ≡ map (λ e. first_of_kind (kind_seen l.parts e.kind)) (take l.element-index l.elements)
