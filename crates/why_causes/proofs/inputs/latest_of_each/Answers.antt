use Rattle.std.proofs.Common.{refl, slice_index_or}
use Rattle.why_causes.specs.Candidates.{last_of}
use Rattle.why_causes.proofs.LatestLaws.{latest-more, latest-all}
use Rattle.why_causes.proofs.inputs.latest_of_each.Goals as goal

pub loop-input-preserved : goal.loop-input-preserved
loop-input-preserved c =
    latest-more (last_of c.args.trace.now c.args.time) c.args.inputs.now c.loop-input.input (slice_index_or c.args.inputs.now c.loop-input.input 0) 0 c.loop-input.best c.last_of.result c.later-best.result
    c.loop-input-test.true refl c.loop-input.invariant c.last_of.ensures c.later-best.ensures

pub returns : goal.returns
returns c = latest-all (last_of c.args.trace.now c.args.time) c.args.inputs.now c.loop-input.input c.loop-input.best c.loop-input-test.false c.loop-input.invariant
