use Rattle.std.proofs.Common.{◌≡◌, length, take}
use Rattle.time_checks.specs.AdjustedSeen.{AreMarks}
use Rattle.time_checks.proofs.adjusted.mark.Given as goal

abbrev pub invariant-loop-zero : goal.invariant-loop-zero
invariant-loop-zero l = record {
  marks : AreMarks (take l.zero-index l.zeroed) l.marks;
  length : length l.marks ≡ length l.fn.marks;
}
