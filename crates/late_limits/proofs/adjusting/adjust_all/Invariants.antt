use Rattle.late_limits.specs.Found.{AreFound}
use Rattle.late_limits.proofs.adjusting.adjust_all.Given as goal

abbrev pub invariant-loop-scope : goal.invariant-loop-scope
invariant-loop-scope l = AreFound l.parts.check_timings.items l.limits l.parts.elements.items l.windows l.lates l.scope l.found
