use Rattle.std.proofs.Common.{map}
use Rattle.sim_times.specs.Watching.{net_change}
use Rattle.sim_times.proofs.ToldLaws.{noted_more}
use Rattle.sim_times.proofs.told.note_all.Goals as goal

pub loop-net-preserved : goal.loop-net-preserved
loop-net-preserved c = noted_more c.args.told.now c.args.values.now c.args.touched.now c.loop-net.net-index 0 (map net_change c.loop-net.changes.items) (map net_change c.note.new.changes.items) c.loop-net-test.true c.loop-net.invariant c.in_ok-note.ensures
