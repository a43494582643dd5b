-- What is there, followed by what is left, is the whole.
use Rattle.std.proofs.Common.{◌≤◌, ◌^◌, length, flat_map, drop, zip}
use Rattle.elab_elements.specs.Words.{path_puts}
use Rattle.elab_elements.proofs.Putting.{Completes}
use Rattle.elab_elements.proofs.paths.add_paths.Given as goal

abbrev pub invariant-loop-bit : goal.invariant-loop-bit
invariant-loop-bit l = record {
  steps : (goal.iterator-loop-bit).can_next l.bit-iterator;
  ends : (goal.iterator-loop-bit).is_finite l.bit-iterator;
  few : length l.made.elements.items ≤ 2 ^ 22;
  left : Completes l.initial.made (flat_map (path_puts l.scope l.place l.row) (zip l.bits l.fn.ends)) l.made (flat_map (path_puts l.scope l.place l.row) (drop (length l.yielded) (zip l.bits l.fn.ends)));
}
