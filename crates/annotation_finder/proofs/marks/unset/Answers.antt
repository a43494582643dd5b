-- One mark more is unset.
use Rattle.std.proofs.Common.{arith}
use Rattle.annotation_finder.proofs.MarkLaws.{unset-none, unset-more, unset-all}
use Rattle.annotation_finder.proofs.marks.unset.Goals as goal

pub loop-place-init : goal.loop-place-init
loop-place-init c = unset-none c.args.marks.now

pub loop-place-preserved : goal.loop-place-preserved
loop-place-preserved c =
    unset-more c.args.marks.now c.loop-place.marks c.args.places.now c.loop-place.place-index 0 c.loop-place-test.true
    (λ k d l. (let within = c.requires k d l in let same = c.loop-place.auto.marks in omega (arith, within, same))) c.loop-place.invariant

pub returns : goal.returns
returns c = unset-all c.args.marks.now c.loop-place.marks c.args.places.now c.loop-place.place-index c.loop-place-test.false c.loop-place.invariant
