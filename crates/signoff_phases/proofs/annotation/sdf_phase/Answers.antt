use Rattle.signoff_phases.proofs.Entries.{refused_text, spares}
use Rattle.signoff_phases.proofs.annotation.sdf_phase.Goals as goal

pub returns-in-Err-Fault-clause-gives : goal.returns-in-Err-Fault-clause-gives
returns-in-Err-Fault-clause-gives c =
    refused_text c.args.name.now c.args.text.now c.in-Err-Fault.kind c.in-Err-Fault.place _ (rw c.in-Err-Fault.field-0-is at c.in-Err-Fault.ensures.found) c.sdf_refusal-refusal.ensures

pub returns-in-Err-Fault-clause-words : goal.returns-in-Err-Fault-clause-words
returns-in-Err-Fault-clause-words c = spares _ _ _ _ c.sdf_refusal-refusal.ensures
