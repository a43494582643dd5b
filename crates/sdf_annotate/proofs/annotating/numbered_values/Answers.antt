-- The places are those of the circuit; want of memory says nothing.
use Rattle.std.proofs.Common.{subst}
use Rattle.std.proofs.lemmas.Result.{err_from_is_err_and}
use Rattle.sg_circuit.specs.Circuit.{Circuit}
use Rattle.sdf_meaning.specs.MeantSeen.{view_sdf}
use Rattle.sdf_annotate.specs.Told.{IsTooLargeAt}
use Rattle.sdf_annotate.specs.declared.unmatched.AnnotError.TheVariants.{NoMemory}
use Rattle.sdf_annotate.proofs.EntrySteps.{exit_by}
use Rattle.sdf_annotate.proofs.annotating.numbered_values.Goals as goal

pub returns-in_err-signals-clause-told : goal.returns-in_err-signals-clause-told
returns-in_err-signals-clause-told c =
    exit_by (IsTooLargeAt c.args.circuit.now (view_sdf c.args.sdf.now) c.args.corner) c.from_residual-in_err-signals.result NoMemory
    (err_from_is_err_and c.from_residual-in_err-signals.result c.from_residual-in_err-signals.ensures.1) tt

pub returns-in_err-values-clause-told : goal.returns-in_err-values-clause-told
returns-in_err-values-clause-told c =
    let sdf = view_sdf c.args.sdf.now in
    exit_by (IsTooLargeAt c.args.circuit.now sdf c.args.corner) c.from_residual-in_err-values.result c.in_err-values.field-0.0
    (err_from_is_err_and c.from_residual-in_err-values.result c.from_residual-in_err-values.ensures.1)
    (subst (λ (circuit : Circuit). IsTooLargeAt circuit sdf c.args.corner c.in_err-values.field-0.0) c.in_ok-places.ensures.seen c.in_err-values.ensures.told)
