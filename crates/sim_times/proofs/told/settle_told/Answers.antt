use Rattle.sim_times.proofs.ToldLaws.{settle_told_more, told_settled}
use Rattle.sim_times.proofs.told.settle_told.Goals as goal

pub loop-net-preserved : goal.loop-net-preserved
loop-net-preserved c = settle_told_more c.args.told.now c.args.values.now c.loop-net.told c.args.touched.now c.loop-net.net-index 0 _ (c.requires.nets c.loop-net.net-index 0 c.loop-net-test.true) c.loop-net-test.true c.loop-net.invariant

pub returns : goal.returns
returns c = told_settled c.args.told.now c.args.values.now c.loop-net.told c.args.marks.now c.args.touched.now c.loop-net.net-index c.loop-net-test.false c.requires.as_many c.requires.marked c.requires.others c.loop-net.invariant
