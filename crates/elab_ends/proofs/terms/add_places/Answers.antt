-- A bit of a variable is added, and a constant isn't.
use Rattle.std.proofs.Common.{◌∙◌, ap}
use Rattle.elab_ends.proofs.TermBits.{net-added, constant-passed, net-in_row, same-row}
use Rattle.elab_ends.proofs.terms.add_places.Goals.{in-Net+in_ok-push, in_default}
use Rattle.elab_ends.proofs.terms.add_places.Goals as goal

pub loop-bit-preserved : goal.loop-bit-preserved
loop-bit-preserved c = elim c.match-bit.branch [
  | in-Net+in_ok-push w ↦ (
    λ vs. net-added vs c.args.bits.now c.loop-bit.bit-index _ w.in-Net.place c.loop-bit.places.items c.match-bit.places.items _ c.loop-bit-test.true w.in-Net.is
        (ap (λ v. v.items) w.places-is ∙ w.in_ok-push.ensures.items) (c.loop-bit.invariant.0 vs),
    λ vs bits row. net-in_row vs c.args.bits.now c.loop-bit.bit-index _ w.in-Net.place c.loop-bit.places.items c.match-bit.places.items c.loop-bit-test.true w.in-Net.is
        (ap (λ v. v.items) w.places-is ∙ w.in_ok-push.ensures.items) bits (c.loop-bit.invariant.1 vs bits row),
  )
  | in_default w ↦ (
    λ vs. constant-passed vs c.args.bits.now c.loop-bit.bit-index _ w.in_default.field-0 w.in_default.field-1 c.loop-bit.places.items c.match-bit.places.items _ c.loop-bit-test.true w.in_default.is
        (ap (λ v. v.items) w.places-is) (c.loop-bit.invariant.0 vs),
    λ vs bits row. same-row vs c.loop-bit.places.items c.match-bit.places.items (ap (λ v. v.items) w.places-is) (c.loop-bit.invariant.1 vs bits row),
  )
]
