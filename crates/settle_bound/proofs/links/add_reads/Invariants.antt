use Rattle.std.proofs.Common.{◌≡◌, ◌++◌, take}
use Rattle.sg_circuit.specs.Pins.{pins_on}
use Rattle.settle_bound.proofs.links.add_reads.Given as goal

abbrev pub invariant-loop-net : goal.invariant-loop-net
invariant-loop-net l = l.pins.items ≡ l.fn.pins.items ++ pins_on l.number (take l.net-index l.nets)
