use Rattle.std.proofs.Common.{◌∙◌}
use Rattle.std.proofs.lemmas.Result.{err_from_is_err_and}
use Rattle.sg_circuit.specs.Circuit.{Circuit}
use Rattle.signoff_phases.specs.Stops.{in_netlist, in_sdf}
use Rattle.signoff_phases.specs.declared.annotation.Annotated.{Annotated}
use Rattle.signoff_phases.proofs.Composed.{failed_again, failed_same, gives_stop, gives_then}
use Rattle.signoff_phases.proofs.phases.annotated_of.Goals as goal

pub returns-in_err-circuit-clause-gives : goal.returns-in_err-circuit-clause-gives
returns-in_err-circuit-clause-gives g c =
    let p = err_from_is_err_and c.from_residual.result c.from_residual.ensures.1 in
    λ files e. rw (p.1, p.2) (gives_stop (c.in_err-circuit.ensures.gives files e))

pub returns-in_err-circuit-clause-named : goal.returns-in_err-circuit-clause-named
returns-in_err-circuit-clause-named g c =
    let p = err_from_is_err_and c.from_residual.result c.from_residual.ensures.1 in
    rw (p.1, p.2) (failed_again Circuit Annotated _ _ c.in_err-circuit.field-0.0 in_netlist c.in_err-circuit.ensures.named)

pub returns-clause-gives : goal.returns-clause-gives
returns-clause-gives g c = λ files e. gives_then (c.in_ok-circuit.ensures.gives files e) (c.annotation_of.ensures.gives files (c.in_ok-circuit.ensures.held ∙ e))

pub returns-clause-named : goal.returns-clause-named
returns-clause-named g c =
    failed_same Annotated _ _ c.annotation_of.result (in_sdf c.in_ok-circuit.circuit (λ files e. (c.in_ok-circuit.ensures.gives files e).outcome)) c.annotation_of.ensures.named
