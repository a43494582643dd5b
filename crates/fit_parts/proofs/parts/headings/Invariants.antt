-- The headings so far, and those of what is left.
use Rattle.std.proofs.Common.{◌-◌, ◌≤◌, length}
use Rattle.fit_parts.proofs.HeadingLaws.{AreSoFar}
use Rattle.fit_parts.proofs.parts.headings.Given as goal

abbrev pub invariant-loop-at : goal.invariant-loop-at
invariant-loop-at l = record {
  within : l.at ≤ length l.tokens;
  so_far : AreSoFar l.list.items l.at l.tokens;
}

abbrev pub decreases-loop-at : goal.decreases-loop-at
decreases-loop-at l = length l.tokens - l.at
