-- What was kept, and what is kept of the rest, are what is left.
use Rattle.std.proofs.Common.{◌≡◌, ◌++◌, drop}
use Rattle.tally_violations.specs.Left.{left_by}
use Rattle.tally_violations.proofs.waivers.left_by.Given as goal

abbrev pub invariant-loop-violation : goal.invariant-loop-violation
invariant-loop-violation l = l.kept.items ++ left_by l.waivers (drop l.violation-index l.violations) ≡ left_by l.waivers l.violations
