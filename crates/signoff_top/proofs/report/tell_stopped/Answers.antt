use Rattle.std.proofs.Common.{◌∙◌, ap, map, subst}
use Rattle.std.specs.Prelude.{None}
use Rattle.time_checks.specs.Seen.{violation_seen}
use Rattle.run_report.specs.Report.{stopped_lines}
use Rattle.run_report.specs.Reporting.{PutsMade, unmatched_seen}
use Rattle.signoff_top.specs.Answer.{status_of_run}
use Rattle.signoff_phases.specs.Told.{Tells}
use Rattle.signoff_top.proofs.Lent.{stopped_lent}
use Rattle.signoff_top.proofs.report.tell_stopped.Goals as goal

pub returns : goal.returns
returns g c =
    let done = c.args.done.now in
    let circuit = done.task.circuit in
    let unmatched = map (unmatched_seen done.task.sdf.items) done.task.unmatched.items in
    let violations = map (λ v. violation_seen v) done.violations.items in
    let text = stopped_lines circuit unmatched violations done.time in
    let before = g.K.Sink.told c.args.report.now in
    subst (λ planned. Tells text planned before (g.K.Sink.told c.tell_put.new.report) c.tell_put.result)
    (c.status_of_run-planned.ensures ∙ ap (λ vs. status_of_run None (map (λ v. violation_seen v) vs)) c.deref.ensures.value)
    (c.tell_put.ensures.made text before
    (subst (λ t. PutsMade t before (g.K.Sink.told c.write_stopped-put.new.sink) c.write_stopped-put.result)
    (stopped_lent circuit _ _ _ _ _ _ done.time c.deref-2.ensures.value c.deref-3.ensures.value c.deref-4.ensures.value)
    c.write_stopped-put.ensures))
