use Rattle.std.proofs.Common.{◌∙◌}
use Rattle.sim_rounds.proofs.CircuitChecksLaws.{checks_by}
use Rattle.sim_rounds.proofs.circuit_checks.CircuitChecks.of_checker.Goals as goal

pub returns : goal.returns
returns c =
    checks_by c.parts-parts.result.now c.args.circuit.now c.deref.result.now c.args.checker c.in_ok-touched.touched c.in_ok-named.named c.len-nets.result c.parts-parts.ensures.seen (c.len-nets.ensures ∙ c.parts-parts.result.now.nets.ok.0)
    c.deref.ensures.value c.in_ok-touched.ensures c.in_ok-named.ensures
