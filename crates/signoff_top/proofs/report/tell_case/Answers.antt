use Rattle.std.proofs.Common.{◌∙◌, ap, map}
use Rattle.time_checks.specs.Seen.{violation_seen}
use Rattle.run_report.specs.Spent.{spent_seen}
use Rattle.signoff_top.specs.Answer.{status_of_run}
use Rattle.signoff_top.specs.Work.{case_told}
use Rattle.signoff_phases.proofs.TellingLaws.{made_tells}
use Rattle.signoff_top.proofs.report.tell_case.Goals as goal

pub returns : goal.returns
returns g c =
    let done = c.args.done.now in
    made_tells c.case_text.result (case_told done) _ _ (g.K.Sink.told c.args.report.now) (g.K.Sink.told c.put_made.new.report) c.put_made.result c.case_text.ensures
    (c.status_of_run-planned.ensures ∙ ap (λ vs. status_of_run (spent_seen done.end.spent) (map (λ v. violation_seen v) vs)) c.deref.ensures.value) c.put_made.ensures.ok c.put_made.ensures.err
