-- The wires so far and those that are left are all.
use Rattle.std.specs.Prelude.{◌≡◌, ◌++◌}
use Rattle.fit_gates.specs.Making.{wires as wires_from}
use Rattle.fit_gates.proofs.steps.wires.Given as goal

abbrev pub invariant-loop-left : goal.invariant-loop-left
invariant-loop-left l = l.made.items ++ wires_from l.place l.left ≡ wires_from l.first l.count

abbrev pub decreases-loop-left : goal.decreases-loop-left
decreases-loop-left l = l.left
