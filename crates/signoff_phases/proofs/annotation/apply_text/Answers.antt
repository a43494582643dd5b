-- What was read entry by entry is what the file is; else the file is read, and then applied.
use Rattle.std.proofs.Common.{subst}
use Rattle.std.specs.Prelude.{map}
use Rattle.std.proofs.lemmas.Result.{err_from_is_err_and}
use Rattle.run_report.specs.Reporting.{unmatched_seen}
use Rattle.sg_circuit.specs.Circuit.{Circuit}
use Rattle.signoff_phases.specs.Phases.{EntriesOutcome}
use Rattle.signoff_phases.specs.Stops.{Gives}
use Rattle.signoff_phases.proofs.Composed.{gives_stop, gives_then}
use Rattle.signoff_phases.proofs.Entries.{read_and_applied}
use Rattle.signoff_phases.proofs.annotation.apply_text.Goals as goal

pub returns-in-Some-clause-gives : goal.returns-in-Some-clause-gives
returns-in-Some-clause-gives c =
    let e = c.in-Some.ensures.annotated in
    read_and_applied c.args.name.now c.args.text.now e.sdf c.args.corner c.args.circuit.now _ c.in-Some.unmatched e.read e.annotated

pub returns-in_err-sdf-clause-gives : goal.returns-in_err-sdf-clause-gives
returns-in_err-sdf-clause-gives c =
    let p = err_from_is_err_and c.from_residual.result c.from_residual.ensures.1 in
    rw (p.1, p.2) (gives_stop c.in_err-sdf.ensures.gives)

pub returns-clause-gives : goal.returns-clause-gives
returns-clause-gives c =
    subst (λ (old : Circuit). Gives (λ us. record { circuit = c.annotation_phase.new.circuit; unmatched = map (unmatched_seen c.args.text.now) us.items }) (EntriesOutcome c.args.name.now c.args.text.now c.args.corner old) c.annotation_phase.result)
    c.in_default.ensures.kept (gives_then c.in_ok-sdf.ensures.gives c.annotation_phase.ensures.gives)
