use Rattle.sim_times.proofs.NamingLaws.{least_more}
use Rattle.sim_times.proofs.naming.least_net.Goals as goal

pub loop-net-preserved : goal.loop-net-preserved
loop-net-preserved c =
    let more = least_more c.args.nets.now c.loop-net.net-index 0 c.loop-net.least c.min-least.result c.loop-net-test.true c.loop-net.invariant.listed c.loop-net.invariant.least c.min-least.ensures in
    record { listed = more.0; least = more.1 }
