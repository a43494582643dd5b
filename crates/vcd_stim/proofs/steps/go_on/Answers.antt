-- The time that comes is another one.
use Rattle.vcd_stim.proofs.StateLaws.{new-time}
use Rattle.vcd_stim.proofs.steps.go_on.Goals as goal

pub returns : goal.returns
returns c scale n now later gs s few m le =
    new-time scale n now later gs c.args.steps.now _ s few m le (λ e. c.if-moment-steps.false e) c.in_ok-close.ensures.empty c.in_ok-close.ensures.closed
