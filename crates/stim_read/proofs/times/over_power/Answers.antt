-- A high power of ten leaves no whole number but 0.
use Rattle.std.proofs.Common.{arith}
use Rattle.sg_time.proofs.ScalingLaws.{one_at_least}
use Rattle.stim_read.proofs.TimeLaws.{none-over-at, far_down}
use Rattle.stim_read.proofs.times.over_power.Goals as goal

pub returns-then-size-eq0 : goal.returns-then-size-eq0
returns-then-size-eq0 c = none-over-at c.args.size c.args.places c.if-size-eq0.true

pub returns-then-places-gt18 : goal.returns-then-places-gt18
returns-then-places-gt18 c = far_down c.args.size c.args.places c.if-size-eq0.false c.requires c.if-places-gt18.true

pub over-requires-clause-some : goal.over-requires-clause-some
over-requires-clause-some c = omega (arith, one_at_least c.args.places, c.pow.ensures)
