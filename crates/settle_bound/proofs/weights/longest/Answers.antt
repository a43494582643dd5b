use Rattle.std.proofs.Common.{◌∙◌}
use Rattle.settle_bound.proofs.LongestLaws.{longest-more, longest-all}
use Rattle.settle_bound.proofs.weights.longest.Goals as goal

pub loop-delay-preserved : goal.loop-delay-preserved
loop-delay-preserved c = c.max-most.ensures ∙ longest-more c.args.delays.now c.loop-delay.delay-index 0 c.loop-delay.most c.loop-delay-test.true c.loop-delay.invariant

pub returns : goal.returns
returns c = longest-all c.args.delays.now c.loop-delay.delay-index c.loop-delay.most c.loop-delay-test.false c.loop-delay.invariant
