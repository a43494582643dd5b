-- The events, the limits, the threshold and the Lates.
use Rattle.elab_checks.proofs.MadeChecks.{check-timed}
use Rattle.elab_checks.proofs.uses.timing_of.Goals as goal

pub returns : goal.returns
returns c = λ net late cs r l.
    check-timed c.args.here.table.now c.args.here.row.now net late cs c.args.conditions.now c.args.here.scope c.args.check.now c.in_ok-refer.refer c.in_ok-datum.datum _ c.lates_of.result
    (c.in_ok-refer.ensures net r) (c.in_ok-datum.ensures net r) c.two_limits.ensures (c.lates_of.ensures cs late l)
