use Rattle.std.proofs.lemmas.Result.{err_from_is_err_and}
use Rattle.std.proofs.Common.{refl}
use Rattle.run_words.specs.Words.{a_run}
use Rattle.run_words.specs.WordsSeen.{command_seen}
use Rattle.signoff_top.specs.declared.phases.Task.{Task}
use Rattle.signoff_top.specs.declared.work.Done.{Done}
use Rattle.signoff_top.proofs.Failures.{dump_among}
use Rattle.signoff_phases.proofs.Composed.{failed_again}
use Rattle.signoff_top.proofs.Worked.{command_stopped, run_gives}
use Rattle.signoff_top.proofs.work.run_command.Goals as goal

pub returns-in_err-task-clause-left : goal.returns-in_err-task-clause-left
returns-in_err-task-clause-left g c =
    let p = err_from_is_err_and c.from_residual.result c.from_residual.ensures.1 in
    let command = command_seen c.args.command.now in
    λ ws e. rw (p.1, p.2) (command_stopped ws (a_run command) command c.in_err-task.field-0.0 _ _ e refl c.in_err-task.ensures.gives c.in_err-task.ensures.held)

pub returns-in_err-task-clause-named : goal.returns-in_err-task-clause-named
returns-in_err-task-clause-named g c =
    let p = err_from_is_err_and c.from_residual.result c.from_residual.ensures.1 in
    λ ws e. rw (p.1, p.2) (failed_again Task Done _ _ c.in_err-task.field-0.0 (λ x. x) (c.in_err-task.ensures.named ws (a_run (command_seen c.args.command.now)) e refl))

pub returns-clause-left : goal.returns-clause-left
returns-clause-left g c = λ ws e. c.run_task.ensures.left ws _ (run_gives ws (command_seen c.args.command.now) c.in_ok-task.task _ e c.in_ok-task.ensures.gives) c.in_ok-task.ensures.held

pub returns-clause-named : goal.returns-clause-named
returns-clause-named g c =
    let command = command_seen c.args.command.now in
    λ ws e. c.run_task.ensures.named ws (a_run command) _ e (dump_among (a_run command) command _ refl c.in_ok-task.ensures.vcd) (run_gives ws command c.in_ok-task.task _ e c.in_ok-task.ensures.gives) c.in_ok-task.ensures.held
