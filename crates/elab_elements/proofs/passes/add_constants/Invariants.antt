-- What is there, followed by what is left, is the whole.
use Rattle.std.proofs.Common.{◌≤◌, ◌^◌, length, flat_map, drop}
use Rattle.elab_bits.specs.declared.bits.Bit.TheVariants as bit
use Rattle.elab_elements.specs.Words.{pass_puts}
use Rattle.elab_elements.proofs.Putting.{Completes}
use Rattle.elab_elements.proofs.passes.add_constants.Given as goal

abbrev pub invariant-loop-to : goal.invariant-loop-to
invariant-loop-to l = record {
  few : length l.made.elements.items ≤ 2 ^ 22;
  left : Completes l.initial.made (flat_map (λ b. pass_puts l.scope l.place l.row l.driven (b, bit.Constant l.place l.value)) l.bits) l.made
      (flat_map (λ b. pass_puts l.scope l.place l.row l.driven (b, bit.Constant l.place l.value)) (drop l.to-index l.bits));
}
