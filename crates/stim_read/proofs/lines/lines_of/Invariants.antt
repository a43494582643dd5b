-- The lines so far, and those of what is left.
use Rattle.std.proofs.Common.{◌≡◌, ◌≤◌, ◌+◌, ◌-◌, ◌++◌, length, map, drop}
use Rattle.std.specs.Prelude.{All}
use Rattle.std.specs.List.{slice_split}
use Rattle.stim_read.specs.Lines.{lines, placed}
use Rattle.stim_read.specs.Seen.{line_seen}
use Rattle.stim_read.proofs.LineLaws.{is_feed}
use Rattle.stim_read.proofs.lines.lines_of.Given as goal

abbrev pub invariant-loop-size : goal.invariant-loop-size
invariant-loop-size l = record {
  within : l.start ≤ length l.text;
  completes : lines l.text ≡ map (λ x. line_seen x) l.made.items ++ placed l.start (slice_split is_feed (drop l.start l.text));
  inside : All (λ x. x.start + length x.bytes.now ≤ length l.text) l.made.items;
}

abbrev pub decreases-loop-size : goal.decreases-loop-size
decreases-loop-size l = length l.text - l.start
