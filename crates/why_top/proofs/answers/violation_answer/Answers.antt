use Rattle.std.proofs.Common.{◌∙◌, ap, map}
use Rattle.time_checks.specs.Seen.{violation_seen}
use Rattle.why_text.specs.Finding.{violation_called}
use Rattle.why_top.specs.Seen.{task_seen}
use Rattle.why_top.proofs.Answered.{some_violation}
use Rattle.why_top.proofs.answers.violation_answer.Goals as goal

pub parts_answer-requires-clause-bounded : goal.parts_answer-requires-clause-bounded
parts_answer-requires-clause-bounded c = c.in_ok-run.ensures.bounded

pub returns-in-Some : goal.returns-in-Some
returns-in-Some c =
    some_violation (task_seen c.args.task.now) c.args.rounds c.args.text.now c.in_ok-place.field-0 c.in-Some.place _ c.deref.result.now c.parts_answer.result c.deref.ensures.value
    (c.in_ok-place.ensures.found ∙ ap (violation_called c.args.task.now.circuit (map (λ v. violation_seen v) c.deref.result.now)) c.as_bytes.ensures.value) c.in-Some.is c.in_ok-run.ensures c.parts_answer.ensures
