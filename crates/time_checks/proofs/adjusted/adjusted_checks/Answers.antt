use Rattle.std.proofs.Common.{◌∙◌, ap, arith}
use Rattle.time_checks.specs.AdjustedSeen.{all_seen}
use Rattle.time_checks.proofs.AdjustedLaws.{checks-all, checks-more-in}
use Rattle.time_checks.proofs.adjusted.adjusted_checks.Goals as goal

pub loop-check-preserved : goal.loop-check-preserved
loop-check-preserved c =
    ap all_seen c.in_ok-push.ensures.items
    ∙ checks-more-in c.parts-parts.result.now c.args.circuit.now c.loop-check.checks.items c.adjusted_check.result c.loop-check.check c.parts-parts.ensures.seen
    (omega (arith, c.loop-check-test.true, c.len-check-end.ensures, c.in_ok-marks.ensures.length, c.len.ensures)) c.loop-check.invariant c.adjusted_check.ensures

pub returns : goal.returns
returns c =
    checks-all c.parts-parts.result.now c.args.circuit.now c.loop-check.checks.items c.loop-check.check c.parts-parts.ensures.seen
    (omega (arith, c.loop-check-test.false, c.len-check-end.ensures, c.in_ok-marks.ensures.length, c.len.ensures)) c.loop-check.invariant
