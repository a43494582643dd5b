-- What is there, followed by what is left, is the whole.
use Rattle.std.proofs.Common.{◌≤◌, ◌^◌, length, flat_map, drop}
use Rattle.elab_elements.specs.Words.{output_puts}
use Rattle.elab_elements.proofs.Putting.{Completes}
use Rattle.elab_elements.proofs.gates.add_outputs.Given as goal

abbrev pub invariant-loop-bit : goal.invariant-loop-bit
invariant-loop-bit l = record {
  few : length l.made.elements.items ≤ 2 ^ 22;
  left : Completes l.initial.made (flat_map (output_puts l.scope l.place l.kind l.inputs l.driven) l.bits) l.made
      (flat_map (output_puts l.scope l.place l.kind l.inputs l.driven) (drop l.bit-index l.bits));
}
