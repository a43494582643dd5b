-- The marks of the places so far are unset.
use Rattle.std.proofs.Common.{take}
use Rattle.annotation_finder.proofs.MarkLaws.{AreUnset}
use Rattle.annotation_finder.proofs.marks.unset.Given as goal

abbrev pub invariant-loop-place : goal.invariant-loop-place
invariant-loop-place l = AreUnset l.fn.marks (take l.place-index l.places) l.marks
