use Rattle.std.proofs.Common.{refl}
use Rattle.std.proofs.lemmas.Result.{err_from_is_err_and}
use Rattle.run_words.specs.Words.{the_bounds}
use Rattle.run_words.specs.WordsSeen.{design_seen}
use Rattle.signoff_phases.specs.declared.annotation.Annotated.{Annotated}
use Rattle.signoff_top.specs.declared.work.Done.{Done}
use Rattle.signoff_top.proofs.Failures.{design_fault}
use Rattle.signoff_phases.proofs.Composed.{failed_again}
use Rattle.signoff_top.proofs.Worked.{bounds_leave, bounds_stopped, want_untouched}
use Rattle.signoff_top.proofs.work.find_bounds.Goals as goal

pub returns-in_err-annotated-clause-left : goal.returns-in_err-annotated-clause-left
returns-in_err-annotated-clause-left g c =
    let p = err_from_is_err_and c.from_residual.result c.from_residual.ensures.1 in
    λ ws e. rw (p.1, p.2) (bounds_stopped ws (design_seen c.args.design.now) c.in_err-annotated.field-0.0 _ _ e c.in_err-annotated.ensures.gives c.in_err-annotated.ensures.held)

pub returns-in_err-annotated-clause-named : goal.returns-in_err-annotated-clause-named
returns-in_err-annotated-clause-named g c =
    let p = err_from_is_err_and c.from_residual.result c.from_residual.ensures.1 in
    λ ws e. rw (p.1, p.2) (failed_again Annotated Done _ _ c.in_err-annotated.field-0.0 (design_fault ws _ _ _ (the_bounds (design_seen c.args.design.now)) _ e refl c.in_err-annotated.ensures.held) c.in_err-annotated.ensures.named)

pub returns-in_err-found-clause-left : goal.returns-in_err-found-clause-left
returns-in_err-found-clause-left g c =
    let p = err_from_is_err_and c.from_residual-in_err-found.result c.from_residual-in_err-found.ensures.1 in
    λ ws e. rw (p.1, p.2) (want_untouched ws _ _ c.in_ok-annotated.ensures.held)

pub returns-in_err-found-clause-named : goal.returns-in_err-found-clause-named
returns-in_err-found-clause-named g c =
    let p = err_from_is_err_and c.from_residual-in_err-found.result c.from_residual-in_err-found.ensures.1 in
    λ ws e. rw (p.1, p.2) tt

pub returns-clause-left : goal.returns-clause-left
returns-clause-left g c = λ ws e.
    bounds_leave ws (design_seen c.args.design.now) c.in_ok-annotated.annotated c.in_ok-found.found _ _ e c.in_ok-annotated.ensures.gives c.in_ok-annotated.ensures.held c.in_ok-found.ensures
