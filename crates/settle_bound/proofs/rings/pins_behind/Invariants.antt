use Rattle.settle_bound.specs.Rings.{AreBehind}
use Rattle.settle_bound.proofs.rings.pins_behind.Given as goal

abbrev pub invariant-loop-place : goal.invariant-loop-place
invariant-loop-place l = AreBehind l.ways l.waits l.place l.back.items
