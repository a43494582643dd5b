-- One candidate after another.
use Rattle.std.specs.Prelude.{◌++◌, take}
use Rattle.annotation_index.proofs.PickLaws.{picked_first, picked_more, picked_last}
use Rattle.annotation_index.proofs.picking.pick.Goals as goal

pub loop-place-init : goal.loop-place-init
loop-place-init g c = λ seen h. picked_first (g.T.Test.test c.args.test.now) seen c.args.marks.now c.args.found.now.items h

pub loop-place-preserved : goal.loop-place-preserved
loop-place-preserved g c = λ seen h.
    picked_more (g.T.Test.test c.args.test.now) seen c.args.candidates.now c.loop-place.place-index 0 c.try_pick.new.marks c.try_pick.new.found.items c.loop-place-test.true
    (c.in_ok-try_pick.ensures (seen ++ take c.loop-place.place-index c.args.candidates.now) (c.loop-place.invariant seen h))

pub returns : goal.returns
returns g c = λ seen h. picked_last (g.T.Test.test c.args.test.now) seen c.args.candidates.now c.loop-place.place-index c.loop-place.marks c.loop-place.found.items
    c.loop-place-test.false (c.loop-place.invariant seen h)
