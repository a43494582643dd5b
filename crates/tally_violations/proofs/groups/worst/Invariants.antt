-- The worst so far goes on by those that are left.
use Rattle.std.proofs.Common.{◌≡◌, drop}
use Rattle.tally_violations.specs.Figures.{worst}
use Rattle.tally_violations.proofs.groups.worst.Given as goal

abbrev pub invariant-loop-violation : goal.invariant-loop-violation
invariant-loop-violation l = worst l.worst (drop l.violation-index l.others) ≡ worst l.first.short l.others
