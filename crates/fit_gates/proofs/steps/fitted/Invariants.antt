-- The bits so far and those that are left are all.
use Rattle.std.specs.Prelude.{◌≡◌, ◌++◌}
use Rattle.fit_gates.specs.Making.{fitted_bits}
use Rattle.fit_gates.proofs.steps.fitted.Given as goal

abbrev pub invariant-loop-left : goal.invariant-loop-left
invariant-loop-left l = l.made.items ++ fitted_bits l.left l.rest ≡ fitted_bits l.width l.bits

abbrev pub decreases-loop-left : goal.decreases-loop-left
decreases-loop-left l = l.left
