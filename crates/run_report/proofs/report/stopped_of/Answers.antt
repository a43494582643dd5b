use Rattle.std.proofs.Common.{map, sym, length}
use Rattle.std.proofs.lemmas.List.{length-map}
use Rattle.time_checks.specs.Seen.{violation_seen}
use Rattle.run_report.specs.Reporting.{unmatched_seen}
use Rattle.run_report.proofs.ReportLaws.{stopped_made}
use Rattle.run_report.proofs.report.stopped_of.Goals as goal

pub returns : goal.returns
returns c =
    stopped_made c.args.circuit.now (map (unmatched_seen c.args.sdf.now) c.args.unmatched.now) (map (λ v. violation_seen v) c.args.violations.now)
    (length c.args.violations.now) (length c.args.unmatched.now) c.args.time
    (sym (length-map c.args.violations.now (λ v. violation_seen v))) (sym (length-map c.args.unmatched.now (unmatched_seen c.args.sdf.now)))
    (rw c.new-text.ensures.items at c.in_ok-push_found.ensures) c.in_ok-push_stopped.ensures
