use Rattle.sdf_meaning.specs.MeantSeen.{view_sdf}
use Rattle.signoff_phases.proofs.Entries.{applied, refused_entry, spares}
use Rattle.signoff_phases.proofs.annotation.annotation_phase.Goals as goal

pub returns-in-Ok-clause-gives : goal.returns-in-Ok-clause-gives
returns-in-Ok-clause-gives c = applied c.args.name.now c.args.text.now (view_sdf c.args.sdf.now) c.args.corner c.args.circuit.now _ c.in-Ok.unmatched c.in-Ok.ensures.annotated

pub returns-in-Err-TooLarge-clause-gives : goal.returns-in-Err-TooLarge-clause-gives
returns-in-Err-TooLarge-clause-gives c =
    refused_entry c.args.name.now c.args.text.now (view_sdf c.args.sdf.now) c.args.corner c.args.circuit.now c.in-Err-TooLarge.place _ _
    (rw c.in-Err-TooLarge.field-0-is at c.in-Err-TooLarge.ensures.told) c.sdf_refusal-refusal.ensures

pub returns-in-Err-TooLarge-clause-words : goal.returns-in-Err-TooLarge-clause-words
returns-in-Err-TooLarge-clause-words c = spares _ _ _ _ c.sdf_refusal-refusal.ensures
