-- The latest of the inputs so far.
use Rattle.std.proofs.Common.{◌≡◌}
use Rattle.why_causes.specs.Candidates.{last_of}
use Rattle.why_causes.proofs.LatestLaws.{latest_to}
use Rattle.why_causes.proofs.inputs.latest_of_each.Given as goal

abbrev pub invariant-loop-input : goal.invariant-loop-input
invariant-loop-input l = l.best ≡ latest_to (last_of l.trace l.time) l.inputs l.input
