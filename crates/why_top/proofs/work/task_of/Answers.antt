use Rattle.std.proofs.Common.{◌∙◌, refl}
use Rattle.std.proofs.lemmas.Result.{err_from_is_err_and}
use Rattle.sg_stimulus.specs.declared.steps.Stimulus.{Stimulus}
use Rattle.signoff_phases.specs.declared.annotation.Annotated.{Annotated}
use Rattle.signoff_phases.proofs.Composed.{failed_again, gives_stop, gives_then}
use Rattle.why_words.specs.WordsSeen.{asked_seen}
use Rattle.why_top.specs.declared.runs.Task.{Task}
use Rattle.why_top.proofs.Named.{design_named, input_named}
use Rattle.why_top.proofs.work.task_of.Goals as goal

pub returns-in_err-annotated-clause-gives : goal.returns-in_err-annotated-clause-gives
returns-in_err-annotated-clause-gives g c =
    let p = err_from_is_err_and c.from_residual.result c.from_residual.ensures.1 in
    λ files e. rw (p.1, p.2) (gives_stop (c.in_err-annotated.ensures.gives files e))

pub returns-in_err-annotated-clause-named : goal.returns-in_err-annotated-clause-named
returns-in_err-annotated-clause-named g c =
    let p = err_from_is_err_and c.from_residual.result c.from_residual.ensures.1 in
    rw (p.1, p.2) (failed_again Annotated Task _ _ c.in_err-annotated.field-0.0 (design_named (asked_seen c.args.asked.now) _ _) c.in_err-annotated.ensures.named)

pub returns-in_err-input-clause-gives : goal.returns-in_err-input-clause-gives
returns-in_err-input-clause-gives g c =
    let p = err_from_is_err_and c.from_residual-in_err-input.result c.from_residual-in_err-input.ensures.1 in
    λ files e. rw (p.1, p.2)
    (gives_then (c.in_ok-annotated.ensures.gives files e)
    (gives_stop (c.in_err-input.ensures.gives files (c.in_ok-annotated.ensures.held ∙ e))))

pub returns-in_err-input-clause-named : goal.returns-in_err-input-clause-named
returns-in_err-input-clause-named g c =
    let p = err_from_is_err_and c.from_residual-in_err-input.result c.from_residual-in_err-input.ensures.1 in
    rw (p.1, p.2) (failed_again Stimulus Task _ _ c.in_err-input.field-0.0 (input_named (asked_seen c.args.asked.now) _) c.in_err-input.ensures.named)

pub returns-clause-gives : goal.returns-clause-gives
returns-clause-gives g c = λ files e.
    gives_then (c.in_ok-annotated.ensures.gives files e)
    (gives_then (c.in_ok-input.ensures.gives files (c.in_ok-annotated.ensures.held ∙ e))
    (record { outcome = refl }))
