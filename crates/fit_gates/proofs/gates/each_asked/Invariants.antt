-- The gates so far and those of the rest are all.
use Rattle.std.specs.Prelude.{◌≡◌, ◌++◌, length, map}
use Rattle.fit_gates.specs.Gates.{seen}
use Rattle.fit_gates.specs.Making.{asked_gates}
use Rattle.fit_gates.proofs.gates.each_asked.Given as goal

abbrev pub invariant-loop-rest : goal.invariant-loop-rest
invariant-loop-rest l = map seen l.gates.items ++ asked_gates l.equal l.rest l.left ≡ asked_gates l.equal l.operands l.bits

abbrev pub decreases-loop-rest : goal.decreases-loop-rest
decreases-loop-rest l = length l.rest
