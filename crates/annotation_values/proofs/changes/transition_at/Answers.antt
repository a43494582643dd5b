use Rattle.std.proofs.Common.{◌<◌, length, rules}
use Rattle.annotation_values.proofs.TimingLaws.{timing_at}
use Rattle.annotation_values.proofs.changes.transition_at.Goals as goal

pub returns : goal.returns
returns c = λ t.
    let in_delays : c.args.i < length c.args.delays.now = search rules in
    let in_limits : c.args.i < length c.args.limits.now = search rules in
    timing_at c.args.delays.now c.args.limits.now c.args.i 0 c.index-limits-i.result t in_delays in_limits
