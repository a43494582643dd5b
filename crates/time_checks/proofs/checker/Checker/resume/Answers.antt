use Rattle.std.proofs.Common.{◌≡◌, ◌∙◌, ap, arith, length}
use Rattle.sg_circuit.specs.Circuit.{Circuit}
use Rattle.time_checks.proofs.AdjustedLaws.{new-few, new-within}
use Rattle.time_checks.proofs.checker.Checker.resume.Goals as goal

pub of_checks-requires-clause-within : goal.of_checks-requires-clause-within
of_checks-requires-clause-within c =
    let nets : c.len-nets.result ≡ length c.parts.result.now.nets.items = omega (arith, c.len-nets.ensures) in
    new-within c.args.circuit.now c.in_ok-checks.checks.items c.len-nets.result c.parts.ensures.closed c.in_ok-checks.ensures (nets ∙ ap (λ (k : Circuit). length k.nets) c.parts.ensures.seen)

pub of_checks-requires-clause-few : goal.of_checks-requires-clause-few
of_checks-requires-clause-few c = new-few c.args.circuit.now c.in_ok-checks.checks.items c.parts.ensures.closed c.in_ok-checks.ensures
