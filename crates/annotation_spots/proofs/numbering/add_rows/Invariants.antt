-- The rows so far.
use Rattle.std.proofs.Common.{◌≡◌, ◌++◌}
use Rattle.annotation_spots.specs.Counts.{rows_of}
use Rattle.annotation_spots.proofs.numbering.add_rows.Given as goal

abbrev pub invariant-loop-path : goal.invariant-loop-path
invariant-loop-path l = l.spots.items ≡ l.fn.spots.items ++ rows_of l.element l.path
