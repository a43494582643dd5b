use Rattle.std.proofs.lemmas.Result.{err_from_is_err_and}
use Rattle.std.proofs.Common.{refl, arith}
use Rattle.run_words.specs.Words.{a_stop}
use Rattle.run_words.specs.WordsSeen.{command_seen, stop_seen}
use Rattle.signoff_top.specs.Tasks.{task_seen}
use Rattle.signoff_top.specs.declared.phases.Task.{Task}
use Rattle.signoff_top.specs.declared.work.Done.{Done}
use Rattle.signoff_top.proofs.Failures.{dump_among, save_among}
use Rattle.signoff_phases.proofs.Composed.{failed_again}
use Rattle.signoff_top.proofs.Stopped.{answers_are, stop_behind, stop_gives}
use Rattle.signoff_top.proofs.Worked.{command_stopped}
use Rattle.signoff_top.proofs.work.run_stopped.Goals as goal

pub returns-in_err-task-clause-left : goal.returns-in_err-task-clause-left
returns-in_err-task-clause-left g c =
    let p = err_from_is_err_and c.from_residual.result c.from_residual.ensures.1 in
    let command = command_seen c.args.command.now in
    λ ws e. rw (p.1, p.2) (command_stopped ws (a_stop command (stop_seen c.args.stop)) command c.in_err-task.field-0.0 _ _ e refl c.in_err-task.ensures.gives c.in_err-task.ensures.held)

pub returns-in_err-task-clause-named : goal.returns-in_err-task-clause-named
returns-in_err-task-clause-named g c =
    let p = err_from_is_err_and c.from_residual.result c.from_residual.ensures.1 in
    λ ws e. rw (p.1, p.2) (failed_again Task Done _ _ c.in_err-task.field-0.0 (λ x. x) (c.in_err-task.ensures.named ws (a_stop (command_seen c.args.command.now) (stop_seen c.args.stop)) e refl))

pub returns-then-stop-task-clause-left : goal.returns-then-stop-task-clause-left
returns-then-stop-task-clause-left g c = λ ws e.
    c.stop_task.ensures.left ws _ (stop_gives ws (command_seen c.args.command.now) (stop_seen c.args.stop) c.in_ok-task.task _ e c.in_ok-task.ensures.gives) c.in_ok-task.ensures.held

pub returns-then-stop-task-clause-named : goal.returns-then-stop-task-clause-named
returns-then-stop-task-clause-named g c =
    let command = command_seen c.args.command.now in
    let stop = stop_seen c.args.stop in
    λ ws e. c.stop_task.ensures.named ws (a_stop command stop) _ e (dump_among (a_stop command stop) command _ refl c.in_ok-task.ensures.vcd) (save_among command stop)
    (stop_gives ws command stop c.in_ok-task.task _ e c.in_ok-task.ensures.gives) c.in_ok-task.ensures.held

pub returns-else-stop-task-clause-left : goal.returns-else-stop-task-clause-left
returns-else-stop-task-clause-left g c =
    let command = command_seen c.args.command.now in
    let stop = stop_seen c.args.stop in
    λ ws e. c.run_task.ensures.left ws _ (answers_are ws _ _ _ (stop_behind (task_seen c.in_ok-task.task) stop (omega (arith, c.if-stop-task.false))) (stop_gives ws command stop c.in_ok-task.task _ e c.in_ok-task.ensures.gives)) c.in_ok-task.ensures.held

pub returns-else-stop-task-clause-named : goal.returns-else-stop-task-clause-named
returns-else-stop-task-clause-named g c =
    let command = command_seen c.args.command.now in
    let stop = stop_seen c.args.stop in
    λ ws e. c.run_task.ensures.named ws (a_stop command stop) _ e (dump_among (a_stop command stop) command _ refl c.in_ok-task.ensures.vcd)
    (answers_are ws _ _ _ (stop_behind (task_seen c.in_ok-task.task) stop (omega (arith, c.if-stop-task.false))) (stop_gives ws command stop c.in_ok-task.task _ e c.in_ok-task.ensures.gives)) c.in_ok-task.ensures.held
