use Rattle.settle_bound.proofs.SettleLaws.{back-more}
use Rattle.settle_bound.proofs.settling.hops_of.Goals as goal

pub loop-place-preserved : goal.loop-place-preserved
loop-place-preserved c =
    back-more c.args.elements c.args.numbers.now c.loop-place.place c.loop-place.hops.items c.push.new.self.items c.hop_of.result c.loop-place-test.true c.loop-place.invariant c.hop_of.ensures c.in_ok-push.ensures.items
