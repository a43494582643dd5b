use Rattle.time_checks.proofs.CheckingLaws.{put_more}
use Rattle.time_checks.proofs.seeing.follow.Goals as goal

pub loop-net-preserved : goal.loop-net-preserved
loop-net-preserved c = put_more c.args.last.now c.loop-net.last c.args.values.now c.args.changed.now c.loop-net.net-index 0 _ (c.requires.nets c.loop-net.net-index 0 c.loop-net-test.true) c.loop-net-test.true c.loop-net.invariant
