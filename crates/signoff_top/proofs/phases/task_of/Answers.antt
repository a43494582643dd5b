use Rattle.std.proofs.Common.{◌∙◌, refl}
use Rattle.std.proofs.lemmas.Result.{err_from_is_err_and}
use Rattle.sg_stimulus.specs.declared.steps.Stimulus.{Stimulus}
use Rattle.run_words.specs.WordsSeen.{command_seen}
use Rattle.signoff_phases.specs.AnnotatedSeen.{annotated_seen}
use Rattle.signoff_phases.specs.declared.annotation.Annotated.{Annotated}
use Rattle.signoff_top.specs.declared.phases.Task.{Task}
use Rattle.signoff_phases.proofs.Composed.{gives_stop, gives_then, failed_again}
use Rattle.signoff_top.proofs.Failures.{design_fault, failed_at_stimulus, run_design}
use Rattle.signoff_top.proofs.phases.task_of.Goals as goal

pub returns-in_err-annotated-clause-gives : goal.returns-in_err-annotated-clause-gives
returns-in_err-annotated-clause-gives g c =
    let p = err_from_is_err_and c.from_residual.result c.from_residual.ensures.1 in
    λ files e. rw (p.1, p.2) (gives_stop (c.in_err-annotated.ensures.gives files e))

pub returns-in_err-annotated-clause-named : goal.returns-in_err-annotated-clause-named
returns-in_err-annotated-clause-named g c =
    let p = err_from_is_err_and c.from_residual.result c.from_residual.ensures.1 in
    λ ws asked e is. rw (p.1, p.2) (failed_again Annotated Task _ _ c.in_err-annotated.field-0.0 (design_fault ws _ _ _ asked _ e (run_design asked (command_seen c.args.command.now) is) c.in_err-annotated.ensures.held) c.in_err-annotated.ensures.named)

pub returns-in_err-input-clause-gives : goal.returns-in_err-input-clause-gives
returns-in_err-input-clause-gives g c =
    let p = err_from_is_err_and c.from_residual-in_err-input.result c.from_residual-in_err-input.ensures.1 in
    λ files e. rw (p.1, p.2)
    (gives_then (c.in_ok-annotated.ensures.gives files e)
    (gives_stop (c.in_err-input.ensures.gives files (c.in_ok-annotated.ensures.held ∙ e))))

pub returns-in_err-input-clause-named : goal.returns-in_err-input-clause-named
returns-in_err-input-clause-named g c =
    let p = err_from_is_err_and c.from_residual-in_err-input.result c.from_residual-in_err-input.ensures.1 in
    λ ws asked e is. rw (p.1, p.2)
    (failed_at_stimulus Stimulus Task ws _ _ _ asked (command_seen c.args.command.now) (annotated_seen c.in_ok-annotated.annotated) c.in_err-input.field-0.0 e is
    (λ files k. (c.in_ok-annotated.ensures.gives files k).outcome)
    (c.in_err-input.ensures.held ∙ c.in_ok-annotated.ensures.held) c.in_err-input.ensures.named)

pub returns-clause-gives : goal.returns-clause-gives
returns-clause-gives g c = λ files e.
    gives_then (c.in_ok-annotated.ensures.gives files e)
    (gives_then (c.in_ok-input.ensures.gives files (c.in_ok-annotated.ensures.held ∙ e))
    (record { outcome = refl }))
