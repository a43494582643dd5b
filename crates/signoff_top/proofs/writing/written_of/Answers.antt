use Rattle.std.proofs.Common.{refl, ℕ}
use Rattle.std.specs.Global.{Vec}
use Rattle.std.proofs.lemmas.Result.{err_from_is_err_and}
use Rattle.run_words.specs.Words.{a_writing}
use Rattle.run_words.specs.WordsSeen.{writing_seen}
use Rattle.signoff_phases.specs.declared.annotation.Annotated.{Annotated}
use Rattle.signoff_top.specs.declared.writing.Written.{Written}
use Rattle.signoff_top.proofs.Failures.{design_fault}
use Rattle.signoff_phases.proofs.Composed.{gives_stop, gives_then, failed_again, unfailed}
use Rattle.signoff_top.proofs.writing.written_of.Goals as goal

pub returns-in_err-annotated-clause-gives : goal.returns-in_err-annotated-clause-gives
returns-in_err-annotated-clause-gives g c =
    let p = err_from_is_err_and c.from_residual.result c.from_residual.ensures.1 in
    λ files e. rw (p.1, p.2) (gives_stop (c.in_err-annotated.ensures.gives files e))

pub returns-in_err-annotated-clause-named : goal.returns-in_err-annotated-clause-named
returns-in_err-annotated-clause-named g c =
    let p = err_from_is_err_and c.from_residual.result c.from_residual.ensures.1 in
    λ ws e. rw (p.1, p.2) (failed_again Annotated Written _ _ c.in_err-annotated.field-0.0 (design_fault ws _ _ _ (a_writing (writing_seen c.args.writing.now)) _ e refl c.in_err-annotated.ensures.held) c.in_err-annotated.ensures.named)

pub returns-in_err-text-clause-gives : goal.returns-in_err-text-clause-gives
returns-in_err-text-clause-gives g c =
    let p = err_from_is_err_and c.from_residual-in_err-text.result c.from_residual-in_err-text.ensures.1 in
    λ files e. rw (p.1, p.2) (gives_then (c.in_ok-annotated.ensures.gives files e) (gives_stop c.in_err-text.ensures.gives))

pub returns-in_err-text-clause-named : goal.returns-in_err-text-clause-named
returns-in_err-text-clause-named g c =
    let p = err_from_is_err_and c.from_residual-in_err-text.result c.from_residual-in_err-text.ensures.1 in
    λ ws e. rw (p.1, p.2) (unfailed (Vec ℕ) Written _ c.in_err-text.field-0.0 c.in_err-text.ensures.works)

pub returns-clause-gives : goal.returns-clause-gives
returns-clause-gives g c = λ files e.
    gives_then (c.in_ok-annotated.ensures.gives files e) (gives_then c.in_ok-text.ensures.gives (record { outcome = refl }))
