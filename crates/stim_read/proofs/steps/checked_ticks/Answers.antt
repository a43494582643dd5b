-- The ticks of a time, or its fault.
use Rattle.std.proofs.Common.{sym}
use Rattle.sg_time.specs.Seen.{number}
use Rattle.stim_read.specs.Meant.{scale_seen}
use Rattle.stim_read.proofs.StepLaws.{time-fine, time-refused}
use Rattle.stim_read.proofs.steps.checked_ticks.Goals as goal

pub returns-in-Ok : goal.returns-in-Ok
returns-in-Ok c = time-fine (scale_seen c.args.scale) c.args.byte (number c.args.time.now) c.in-Ok.ticks (sym c.in-Ok.ensures)

pub returns-in-Err : goal.returns-in-Err
returns-in-Err c = rw c.fault.ensures (time-refused (scale_seen c.args.scale) c.args.byte (number c.args.time.now) c.in-Err.kind (sym c.in-Err.ensures))
