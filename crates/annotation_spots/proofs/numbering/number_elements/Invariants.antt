-- The rows of the elements so far; what is left completes the numbers.
use Rattle.std.proofs.Common.{◌<◌, ◌^◌}
use Rattle.annotation_spots.specs.Counts.{counts_of}
use Rattle.annotation_spots.proofs.RowLaws.{AreNumbered}
use Rattle.annotation_spots.proofs.numbering.number_elements.Given as goal

abbrev pub invariant-loop-number : goal.invariant-loop-number
invariant-loop-number l = record {
  few : l.first < 2 ^ 32;
  numbered : AreNumbered (counts_of l.elements) l.number l.spots.items l.first l.firsts.items;
}
