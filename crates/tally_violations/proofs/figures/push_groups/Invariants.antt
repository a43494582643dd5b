-- The lines so far, and those of the violations that are left.
use Rattle.std.proofs.Common.{◌≡◌, ◌≤◌, ◌-◌, ◌++◌, drop, flat_map, length}
use Rattle.tally_violations.specs.Figures.{group_line}
use Rattle.tally_violations.specs.Groups.{groups}
use Rattle.tally_violations.proofs.figures.push_groups.Given as goal

abbrev pub invariant-loop-first : goal.invariant-loop-first
invariant-loop-first l = record {
  within : l.at ≤ length l.ordered;
  told : l.text.items ++ flat_map group_line (groups (drop l.at l.ordered)) ≡ l.initial.text.items ++ flat_map group_line (groups l.ordered);
}

abbrev pub decreases-loop-first : goal.decreases-loop-first
decreases-loop-first l = length l.ordered - l.at
