-- A high power of ten makes any number but 0 too large.
use Rattle.stim_read.proofs.TimeLaws.{far_up}
use Rattle.stim_read.proofs.times.times_power.Goals as goal

pub returns-then-places-gt18 : goal.returns-then-places-gt18
returns-then-places-gt18 c = far_up c.args.size c.args.places c.if-size-eq0.false c.if-places-gt18.true
