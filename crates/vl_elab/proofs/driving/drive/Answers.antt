-- Each net has its driver when the loop ends.
use Rattle.std.proofs.Common.{◌≡◌, refl, length, ◌∙◌, ap, arith}
use Rattle.vl_elab.proofs.OneByOne.{driven_first, step, all-driven}
use Rattle.vl_elab.proofs.driving.drive.Goals as goal

pub loop-place-init : goal.loop-place-init
loop-place-init c = refl

pub loop-place-preserved : goal.loop-place-preserved
loop-place-preserved c =
    step c.loop-place.place c.args.nets.now.items c.args.drivers.now c.loop-place.nets.items c.index_mut.result.now _ _ c.loop-place.invariant c.index_mut.ensures.value c.requires c.loop-place-test.true

pub returns : goal.returns
returns c =
    let e : c.loop-place.place ≡ length c.args.drivers.now = omega (arith, c.loop-place-test.false, c.loop-place.auto.place-end) in
    c.loop-place.invariant ∙ ap (λ k. driven_first k c.args.nets.now.items c.args.drivers.now) e ∙ all-driven c.args.nets.now.items c.args.drivers.now
