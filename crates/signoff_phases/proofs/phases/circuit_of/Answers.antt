use Rattle.std.proofs.lemmas.Result.{err_from_is_err_and}
use Rattle.signoff_phases.proofs.Composed.{gives_stop, gives_then}
use Rattle.signoff_phases.proofs.phases.circuit_of.Goals as goal

pub returns-in_err-texts-clause-gives : goal.returns-in_err-texts-clause-gives
returns-in_err-texts-clause-gives g c =
    let p = err_from_is_err_and c.from_residual.result c.from_residual.ensures.1 in
    λ files e. rw (p.1, p.2) (gives_stop (rw c.deref.ensures.value at (c.in_err-texts.ensures.gives files e)))

pub returns-clause-gives : goal.returns-clause-gives
returns-clause-gives g c = λ files e.
    gives_then (rw c.deref.ensures.value at (c.in_ok-texts.ensures.gives files e)) (rw (c.deref-2.ensures.value, c.deref-3.ensures.value) at c.netlist_phase.ensures.gives)
