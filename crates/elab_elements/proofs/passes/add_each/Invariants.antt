-- What is there, followed by what is left, is the whole.
use Rattle.std.proofs.Common.{◌≤◌, ◌^◌, length, flat_map, drop, zip}
use Rattle.elab_elements.specs.Words.{pass_puts}
use Rattle.elab_elements.proofs.Putting.{Completes}
use Rattle.elab_elements.proofs.passes.add_each.Given as goal

abbrev pub invariant-loop-to : goal.invariant-loop-to
invariant-loop-to l = record {
  steps : (goal.iterator-loop-to).can_next l.to-iterator;
  ends : (goal.iterator-loop-to).is_finite l.to-iterator;
  few : length l.made.elements.items ≤ 2 ^ 22;
  left : Completes l.initial.made (flat_map (pass_puts l.scope l.place l.row l.driven) (zip l.left l.right)) l.made
      (flat_map (pass_puts l.scope l.place l.row l.driven) (drop (length l.yielded) (zip l.left l.right)));
}
