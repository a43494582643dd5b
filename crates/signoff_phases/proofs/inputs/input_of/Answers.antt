use Rattle.std.proofs.lemmas.Result.{err_from_is_err_and}
use Rattle.signoff_phases.proofs.Composed.{file_given, gives_stop, gives_then}
use Rattle.signoff_phases.proofs.inputs.input_of.Goals as goal

pub returns-in_err-text-clause-gives : goal.returns-in_err-text-clause-gives
returns-in_err-text-clause-gives g c =
    let p = err_from_is_err_and c.from_residual.result c.from_residual.ensures.1 in
    λ files e. rw (p.1, p.2) (gives_stop (file_given _ _ files c.file_of.ensures (c.in_err-text.ensures.gives files e)))

pub returns-clause-gives : goal.returns-clause-gives
returns-clause-gives g c = λ files e.
    gives_then (file_given _ _ files c.file_of.ensures (c.in_ok-text.ensures.gives files e)) (rw c.deref.ensures.value at c.driving_phase.ensures.gives)
