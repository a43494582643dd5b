use Rattle.std.proofs.Common.{◌∙◌, map, ap}
use Rattle.std.proofs.lemmas.Result.{on_ok_weaker}
use Rattle.time_checks.specs.Seen.{violation_seen}
use Rattle.run_report.specs.Reporting.{unmatched_seen}
use Rattle.run_report.proofs.ReportLaws.{found_made}
use Rattle.run_report.proofs.report.push_found.Goals as goal

pub returns : goal.returns
returns c =
    on_ok_weaker c.push_violations.result
    (λ last. found_made c.args.text.now.items c.args.circuit.now (map (unmatched_seen c.args.sdf.now) c.args.unmatched.now) _ (map (λ v. violation_seen v) c.args.violations.now)
    (c.deref.ensures.value ∙ ap (λ p. p.zeroed) c.parts.ensures.seen) c.in_ok-push_unmatched.ensures c.in_ok-push_zeroed.ensures last)
    c.push_violations.ensures
