use Rattle.std.proofs.lemmas.Result.{err_from_is_err_and}
use Rattle.signoff_top.proofs.Worked.{case_leaves, case_stopped, case_wants}
use Rattle.signoff_top.proofs.work.run_case.Goals as goal

pub returns-in_err-task-clause-left : goal.returns-in_err-task-clause-left
returns-in_err-task-clause-left c =
    let p = err_from_is_err_and c.from_residual.result c.from_residual.ensures.1 in
    λ ws files e. rw (p.1, p.2) (case_stopped ws c.args.stages c.in_err-task.field-0.0 files e c.in_err-task.ensures.gives)

pub returns-clause-left : goal.returns-clause-left
returns-clause-left c = λ ws files e. case_leaves ws (record { stages = c.args.stages; task = c.in_ok-task.task; end = c.in_ok-end.end }) files e c.in_ok-task.ensures.gives.outcome (record {
  spent = c.in_ok-end.ensures.spent;
  violations = c.in_ok-end.ensures.violations;
  evaluations = c.in_ok-end.ensures.evaluations;
  last = c.in_ok-end.ensures.last;
})

pub returns-in_err-end-clause-left : goal.returns-in_err-end-clause-left
returns-in_err-end-clause-left c =
    let p = err_from_is_err_and c.from_residual-in_err-end.result c.from_residual-in_err-end.ensures.1 in
    λ ws files e. rw (p.1, p.2) (case_wants ws files)
