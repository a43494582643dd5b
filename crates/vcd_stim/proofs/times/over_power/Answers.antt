-- A high power of ten leaves no whole number but 0.
use Rattle.std.proofs.Common.{arith}
use Rattle.sg_time.proofs.ScalingLaws.{one_at_least}
use Rattle.vcd_stim.proofs.TimeLaws.{none-over-at, far_down}
use Rattle.vcd_stim.proofs.times.over_power.Goals as goal

pub returns-then-number-eq0 : goal.returns-then-number-eq0
returns-then-number-eq0 c = none-over-at c.args.number c.args.places c.if-number-eq0.true

pub returns-then-places-gt20 : goal.returns-then-places-gt20
returns-then-places-gt20 c = far_down c.args.number c.args.places c.if-number-eq0.false c.requires c.if-places-gt20.true

pub over-requires : goal.over-requires
over-requires c = omega (arith, one_at_least c.args.places, c.pow.ensures)
