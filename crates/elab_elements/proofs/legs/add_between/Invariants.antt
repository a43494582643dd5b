-- What is there, followed by what is left, is the whole.
use Rattle.std.proofs.Common.{◌≤◌, ◌-◌, ◌^◌, length, flat_map}
use Rattle.std.specs.List.{range_with_len}
use Rattle.elab_elements.specs.Words.{bit_leg}
use Rattle.elab_elements.proofs.Putting.{Completes}
use Rattle.elab_elements.proofs.legs.add_between.Given as goal

abbrev pub invariant-loop-bit : goal.invariant-loop-bit
invariant-loop-bit l = record {
  few : length l.made.elements.items ≤ 2 ^ 22;
  left : Completes l.initial.made (flat_map (bit_leg l.scope l.place l.inner l.outer) (range_with_len l.start (l.end - l.start))) l.made
      (flat_map (bit_leg l.scope l.place l.inner l.outer) (range_with_len l.bit (l.end - l.bit)));
}
