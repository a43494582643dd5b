-- What is there, followed by what is left, is the whole; no more numbers are taken than elements are put.
use Rattle.std.proofs.Common.{◌≤◌, ◌+◌, ◌^◌, length, flat_map, zip}
use Rattle.elab_elements.specs.Words.{late_puts, copy_numbers}
use Rattle.elab_elements.proofs.LateMeaning.{lates_from}
use Rattle.elab_elements.proofs.Putting.{Completes}
use Rattle.elab_elements.proofs.lates.add_lates.Given as goal

abbrev pub invariant-loop-placed : goal.invariant-loop-placed
invariant-loop-placed l = record {
  few : length l.made.elements.items ≤ 2 ^ 22;
  next : l.next ≤ l.first + length l.made.elements.items;
  left : Completes l.initial.made (flat_map (late_puts l.scope l.row) (zip l.copies (copy_numbers l.first l.driven l.copies))) l.made (lates_from l.scope l.row l.driven l.copies l.placed-index l.next);
}
