use Rattle.std.proofs.Common.{map, sym, length}
use Rattle.std.proofs.lemmas.List.{length-map}
use Rattle.time_checks.specs.Seen.{violation_seen}
use Rattle.run_report.specs.Reporting.{unmatched_seen}
use Rattle.run_report.specs.Spent.{end_spent, end_time}
use Rattle.run_report.proofs.ReportLaws.{report_made}
use Rattle.run_report.proofs.report.report_of.Goals as goal

pub returns : goal.returns
returns c =
    report_made c.args.circuit.now (map (unmatched_seen c.args.sdf.now) c.args.unmatched.now) (map (λ v. violation_seen v) c.args.violations.now)
    (length c.args.violations.now) (length c.args.unmatched.now) (end_time c.args.end) (end_spent c.args.end)
    (sym (length-map c.args.violations.now (λ v. violation_seen v))) (sym (length-map c.args.unmatched.now (unmatched_seen c.args.sdf.now)))
    (rw c.new-text.ensures.items at c.in_ok-push_found.ensures) c.in_ok-push_last.ensures
