use Rattle.annotation_values.proofs.TimingLaws.{timing_set}
use Rattle.annotation_values.proofs.changes.set_transition.Goals as goal

pub returns : goal.returns
returns c = timing_set c.args.delays.now c.args.limits.now c.args.i c.args.new.delay c.args.new.limit
