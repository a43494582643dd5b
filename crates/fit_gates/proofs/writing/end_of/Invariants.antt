-- The joins that are left.
use Rattle.std.specs.Prelude.{◌≡◌, length}
use Rattle.fit_gates.specs.Text as spelled
use Rattle.fit_gates.proofs.writing.end_of.Given as goal

abbrev pub invariant-loop-rest : goal.invariant-loop-rest
invariant-loop-rest l = spelled.end_of l.rest l.place ≡ spelled.end_of l.joins l.place

abbrev pub decreases-loop-rest : goal.decreases-loop-rest
decreases-loop-rest l = length l.rest
