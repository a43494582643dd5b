use Rattle.std.proofs.Common.{arith}
use Rattle.path_pick.proofs.PulseLaws.{pulse-at, near-at}
use Rattle.path_pick.proofs.pulses.pulse_at.Goals as goal

pub returns-clause-pulse : goal.returns-clause-pulse
returns-clause-pulse c =
    pulse-at c.args.delays.now c.args.limits.now c.args.place 0 _ c.limits_by-reject.result _
    (omega (arith, c.told-delays, c.requires)) (omega (arith, c.told-limits, c.requires)) c.limits_by-reject.ensures.limits

pub returns-clause-near : goal.returns-clause-near
returns-clause-near c = λ near. near-at c.args.delays.now c.args.limits.now c.args.place 0 (omega (arith, c.told-delays, c.requires)) (omega (arith, c.told-limits, c.requires)) near
