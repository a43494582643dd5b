use Rattle.sg_circuit.specs.Seen.{circuit_seen}
use Rattle.settle_bound.specs.Linked.{HavePins}
use Rattle.settle_bound.proofs.links.add_element_pins.Given as goal

abbrev pub invariant-loop-number : goal.invariant-loop-number
invariant-loop-number l = HavePins (circuit_seen l.parts) l.number l.pins.items
