-- The gates so far and those of the rest are all.
use Rattle.std.specs.Prelude.{◌≡◌, ◌++◌, length, map}
use Rattle.fit_gates.specs.Gates.{seen}
use Rattle.fit_gates.specs.Making.{apart_gates}
use Rattle.fit_gates.proofs.gates.each_apart.Given as goal

abbrev pub invariant-loop-rest : goal.invariant-loop-rest
invariant-loop-rest l = map seen l.gates.items ++ apart_gates l.kind l.rest l.others ≡ apart_gates l.kind l.left l.right

abbrev pub decreases-loop-rest : goal.decreases-loop-rest
decreases-loop-rest l = length l.rest
