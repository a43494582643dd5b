-- A word of this form is in front, or none.
use Rattle.sim_save.proofs.TakeLaws.{no_event_front, no_event_word, event_taken}
use Rattle.sim_save.proofs.taking.take_event.Goals as goal

pub returns-in_err-time : goal.returns-in_err-time
returns-in_err-time c = rw c.from_residual.ensures (no_event_front c.args.text.now c.in_err-time.ensures)

pub returns-in_err-event : goal.returns-in_err-event
returns-in_err-event c = rw c.from_residual-in_err-event.ensures (no_event_word c.args.text.now c.in_ok-time.time.now c.in_ok-time.rest.now c.in_ok-time.ensures c.in_err-event.ensures)

pub returns : goal.returns
returns c = event_taken c.args.text.now c.in_ok-time.time.now c.in_ok-time.rest.now c.in_ok-event.event c.in_ok-time.ensures c.in_ok-event.ensures
