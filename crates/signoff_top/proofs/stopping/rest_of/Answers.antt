use Rattle.std.proofs.Common.{◌∙◌, ℕ, refl}
use Rattle.std.proofs.lemmas.Result.{err_from_is_err_and}
use Rattle.std.specs.Global.{Vec}
use Rattle.sim_rounds.specs.declared.moments.Moment.{Moment}
use Rattle.run_words.specs.Words.{a_rest}
use Rattle.run_words.specs.WordsSeen.{command_seen}
use Rattle.signoff_top.specs.Tasks.{IsSound, task_seen}
use Rattle.signoff_top.specs.declared.phases.Task.{Task}
use Rattle.signoff_top.specs.declared.stopping.Rest.{Rest}
use Rattle.signoff_phases.proofs.Composed.{failed_again, gives_stop, gives_then, unfailed}
use Rattle.signoff_top.proofs.Failures.{failed_at_state}
use Rattle.signoff_top.proofs.Sound.{accepted, sound, uncut}
use Rattle.signoff_top.proofs.stopping.rest_of.Goals as goal

pub returns-in_err-task-clause-gives : goal.returns-in_err-task-clause-gives
returns-in_err-task-clause-gives g c =
    let p = err_from_is_err_and c.from_residual.result c.from_residual.ensures.1 in
    λ files e. rw (p.1, p.2) (gives_stop (c.in_err-task.ensures.gives files e))

pub returns-in_err-task-clause-named : goal.returns-in_err-task-clause-named
returns-in_err-task-clause-named g c =
    let p = err_from_is_err_and c.from_residual.result c.from_residual.ensures.1 in
    λ ws e. rw (p.1, p.2) (failed_again Task Rest _ _ c.in_err-task.field-0.0 (λ x. x) (c.in_err-task.ensures.named ws (a_rest (command_seen c.args.command.now) c.args.state.now) e refl))

pub returns-in_err-text-clause-gives : goal.returns-in_err-text-clause-gives
returns-in_err-text-clause-gives g c =
    let p = err_from_is_err_and c.from_residual-in_err-text.result c.from_residual-in_err-text.ensures.1 in
    λ files e. rw (p.1, p.2) (gives_then (c.in_ok-task.ensures.gives files e) (gives_stop (c.in_err-text.ensures.gives files (c.in_ok-task.ensures.held ∙ e))))

pub returns-in_err-text-clause-named : goal.returns-in_err-text-clause-named
returns-in_err-text-clause-named g c =
    let p = err_from_is_err_and c.from_residual-in_err-text.result c.from_residual-in_err-text.ensures.1 in
    λ ws e. rw (p.1, p.2)
    (failed_at_state (Vec ℕ) Rest ws _ _ _ (command_seen c.args.command.now) c.args.state.now (task_seen c.in_ok-task.task) c.in_err-text.field-0.0 e
    (λ files k. (c.in_ok-task.ensures.gives files k).outcome)
    (c.in_err-text.ensures.held ∙ c.in_ok-task.ensures.held) c.in_err-text.ensures.named)

pub returns-in_err-moment-clause-gives : goal.returns-in_err-moment-clause-gives
returns-in_err-moment-clause-gives g c =
    let p = err_from_is_err_and c.from_residual-in_err-moment.result c.from_residual-in_err-moment.ensures.1 in
    λ files e. rw (p.1, p.2)
    (gives_then (c.in_ok-task.ensures.gives files e)
    (gives_then (c.in_ok-text.ensures.gives files (c.in_ok-task.ensures.held ∙ e))
    (gives_stop (rw c.deref.ensures.value at c.in_err-moment.ensures.gives))))

pub returns-in_err-moment-clause-named : goal.returns-in_err-moment-clause-named
returns-in_err-moment-clause-named g c =
    let p = err_from_is_err_and c.from_residual-in_err-moment.result c.from_residual-in_err-moment.ensures.1 in
    λ ws e. rw (p.1, p.2) (unfailed Moment Rest _ c.in_err-moment.field-0.0 c.in_err-moment.ensures.works)

pub returns-clause-gives : goal.returns-clause-gives
returns-clause-gives g c = λ files e.
    gives_then (c.in_ok-task.ensures.gives files e)
    (gives_then (c.in_ok-text.ensures.gives files (c.in_ok-task.ensures.held ∙ e))
    (gives_then (rw c.deref.ensures.value at c.in_ok-moment.ensures.gives)
    (record { outcome = refl })))

pub returns-clause-fits : goal.returns-clause-fits
returns-clause-fits g c = c.in_ok-moment.ensures.gives.outcome.fits

pub returns-clause-before : goal.returns-clause-before
returns-clause-before g c = c.in_ok-moment.ensures.gives.outcome.before

pub returns-in_err-task-clause-sound : goal.returns-in_err-task-clause-sound
returns-in_err-task-clause-sound g c =
    let p = err_from_is_err_and c.from_residual.result c.from_residual.ensures.1 in
    λ files task e k. rw (p.1, p.2) (accepted Rest (IsSound task) (command_seen c.args.command.now) files task c.in_err-task.field-0.0 (c.in_err-task.ensures.gives files e) k)

pub returns-in_err-text-clause-sound : goal.returns-in_err-text-clause-sound
returns-in_err-text-clause-sound g c = λ files task e k.
    uncut (IsSound task) c.from_residual-in_err-text.result (sound (command_seen c.args.command.now) files task c.in_ok-task.task (c.in_ok-task.ensures.gives files e) k c.recall_closed.ensures c.in_ok-task.ensures.applied)

pub returns-in_err-moment-clause-sound : goal.returns-in_err-moment-clause-sound
returns-in_err-moment-clause-sound g c = λ files task e k.
    uncut (IsSound task) c.from_residual-in_err-moment.result (sound (command_seen c.args.command.now) files task c.in_ok-task.task (c.in_ok-task.ensures.gives files e) k c.recall_closed.ensures c.in_ok-task.ensures.applied)

pub returns-clause-sound : goal.returns-clause-sound
returns-clause-sound g c = λ files task e k.
    sound (command_seen c.args.command.now) files task c.in_ok-task.task (c.in_ok-task.ensures.gives files e) k c.recall_closed.ensures c.in_ok-task.ensures.applied
