-- The lines so far, and those of the waivers that are left.
use Rattle.std.proofs.Common.{◌≡◌, ◌++◌, drop, flat_map}
use Rattle.tally_violations.specs.Figures.{unused_line}
use Rattle.tally_violations.specs.Left.{unused}
use Rattle.tally_violations.proofs.figures.push_unused.Given as goal

abbrev pub invariant-loop-waiver : goal.invariant-loop-waiver
invariant-loop-waiver l =
    l.text.items ++ flat_map (unused_line l.name) (unused l.violations (drop l.waiver-index l.waivers)) ≡ l.initial.text.items ++ flat_map (unused_line l.name) (unused l.violations l.waivers)
