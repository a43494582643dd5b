-- What has no delays is refused.
use Rattle.std.proofs.Common.{rules, option_map, ap}
use Rattle.vl_tree.specs.Seen.{view_delay}
use Rattle.vl_token.specs.Seen.{timescale}
use Rattle.elab_primitives.proofs.TooLong.{too-long}
use Rattle.elab_primitives.proofs.delays.gate_delays.Goals as goal

pub returns-in-None-clause-refused : goal.returns-in-None-clause-refused
returns-in-None-clause-refused c = λ m is.
    too-long c.args.most c.args.corner c.args.tick.power m (timescale c.args.scale) (option_map view_delay c.args.delay.now) (view_delay c.in-Some.delay)
    (ap (option_map view_delay) c.in-Some.is) is (search rules)
