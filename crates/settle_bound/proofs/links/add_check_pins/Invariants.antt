use Rattle.std.proofs.Common.{◌+◌, length}
use Rattle.sg_circuit.specs.Seen.{circuit_seen}
use Rattle.settle_bound.specs.Linked.{HavePins}
use Rattle.settle_bound.proofs.links.add_check_pins.Given as goal

abbrev pub invariant-loop-check : goal.invariant-loop-check
invariant-loop-check l = HavePins (circuit_seen l.parts) (length (circuit_seen l.parts).elements + l.check) l.pins.items
