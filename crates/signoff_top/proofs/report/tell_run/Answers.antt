use Rattle.std.proofs.Common.{◌∙◌, ap, map, subst}
use Rattle.time_checks.specs.Seen.{violation_seen}
use Rattle.run_report.specs.Report.{report_lines}
use Rattle.run_report.specs.Reporting.{PutsMade, unmatched_seen}
use Rattle.run_report.specs.Spent.{spent_seen}
use Rattle.signoff_top.specs.Answer.{status_of_run}
use Rattle.signoff_phases.specs.Told.{Tells}
use Rattle.signoff_top.proofs.Lent.{lines_lent}
use Rattle.signoff_top.proofs.report.tell_run.Goals as goal

pub returns : goal.returns
returns g c =
    let done = c.args.done.now in
    let circuit = done.task.circuit in
    let unmatched = map (unmatched_seen done.task.sdf.items) done.task.unmatched.items in
    let violations = map (λ v. violation_seen v) done.end.violations.items in
    let text = report_lines circuit unmatched violations done.task.input.end (spent_seen done.end.spent) in
    let before = g.K.Sink.told c.args.report.now in
    subst (λ planned. Tells text planned before (g.K.Sink.told c.tell_put.new.report) c.tell_put.result)
    (c.status_of_run-planned.ensures ∙ ap (λ vs. status_of_run (spent_seen done.end.spent) (map (λ v. violation_seen v) vs)) c.deref.ensures.value)
    (c.tell_put.ensures.made text before
    (subst (λ t. PutsMade t before (g.K.Sink.told c.write_report-put.new.sink) c.write_report-put.result)
    (lines_lent circuit _ _ _ _ _ _ c.report_end.result c.deref-2.ensures.value c.deref-3.ensures.value c.deref-4.ensures.value ∙ c.report_end.ensures circuit unmatched violations)
    c.write_report-put.ensures))
