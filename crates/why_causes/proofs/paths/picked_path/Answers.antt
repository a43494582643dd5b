use Rattle.why_causes.proofs.PathLaws.{picked-more, picked-all}
use Rattle.why_causes.proofs.paths.picked_path.Goals as goal

pub loop-place-preserved : goal.loop-place-preserved
loop-place-preserved c = λ conditions.
    picked-more conditions c.args.timings.now c.args.paths.now c.args.trace.now c.args.change c.loop-place.place c.index-paths-place.result c.index-paths-place.result c.loop-place.best c.through_path.result c.later-best.result
    c.loop-place-test.true c.index-paths-place.is (c.loop-place.invariant conditions) (c.through_path.ensures conditions) c.later-best.ensures

pub returns : goal.returns
returns c = λ conditions.
    picked-all conditions c.args.timings.now c.args.paths.now c.args.trace.now c.args.change c.loop-place.place c.loop-place.best c.loop-place-test.false (c.loop-place.invariant conditions)
