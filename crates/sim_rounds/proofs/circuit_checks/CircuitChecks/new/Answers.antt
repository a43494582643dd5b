use Rattle.std.proofs.Common.{[]}
use Rattle.std.proofs.lemmas.Result.{IfOk-weaker}
use Rattle.sim_rounds.specs.Engines.{AreChecksAt, AreChecksBy}
use Rattle.sim_rounds.proofs.CircuitChecksLaws.{checks_at}
use Rattle.sim_rounds.proofs.circuit_checks.CircuitChecks.new.Goals as goal

pub returns : goal.returns
returns c =
    let circuit = c.args.circuit.now in
    let checker = c.in_ok-checker.checker in
    IfOk-weaker c.of_checker.result (λ k. AreChecksBy circuit checker k.checks.now k.checker k.touched k.named) (λ k. AreChecksAt circuit [] [] k.checks.now k.checker k.touched k.named)
    (λ k h. checks_at circuit [] [] k.checks.now k.checker checker k.touched k.named h c.in_ok-checker.ensures.checks c.in_ok-checker.ensures.earlier c.in_ok-checker.ensures.nets c.in_ok-checker.ensures.empty) c.of_checker.ensures
