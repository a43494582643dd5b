use Rattle.std.proofs.lemmas.Result.{err_from_is_err_and}
use Rattle.signoff_phases.proofs.Composed.{gives_again, gives_stop, gives_then}
use Rattle.signoff_phases.proofs.annotation.apply_file.Goals as goal

pub returns-in_err-sdf-clause-gives : goal.returns-in_err-sdf-clause-gives
returns-in_err-sdf-clause-gives g c =
    let p = err_from_is_err_and c.from_residual.result c.from_residual.ensures.1 in
    λ files e. rw (p.1, p.2) (gives_stop (c.in_err-sdf.ensures.gives files e))

pub returns-in_err-unmatched-clause-gives : goal.returns-in_err-unmatched-clause-gives
returns-in_err-unmatched-clause-gives g c =
    let p = err_from_is_err_and c.from_residual-in_err-unmatched.result c.from_residual-in_err-unmatched.ensures.1 in
    λ files e. rw (p.1, p.2) (gives_then (c.in_ok-sdf.ensures.gives files e) (gives_again (rw c.deref.ensures.value at c.in_err-unmatched.ensures.gives)))

pub returns-clause-gives : goal.returns-clause-gives
returns-clause-gives g c = λ files e.
    gives_then (c.in_ok-sdf.ensures.gives files e) (record { outcome = (rw c.deref.ensures.value at c.in_ok-unmatched.ensures.gives).outcome })
