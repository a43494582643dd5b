use Rattle.late_limits.proofs.CountLaws.{counts-more}
use Rattle.late_limits.proofs.counts.count_all.Goals as goal

pub loop-scope-preserved : goal.loop-scope-preserved
loop-scope-preserved c =
    counts-more c.args.timings.now c.args.windows.now c.loop-scope.scope c.loop-scope.counts.items c.push.new.self.items c.of.result.now c.meet_all.new.signals c.count.result
    c.loop-scope.invariant c.of.ensures c.in_ok-meet_all.ensures c.count.ensures c.in_ok-push.ensures.items
