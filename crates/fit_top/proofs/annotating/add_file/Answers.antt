use Rattle.std.proofs.Common.{refl}
use Rattle.fit_top.specs.Work.{input_seen}
use Rattle.fit_top.proofs.SdfLaws.{changes_added, fault_added}
use Rattle.fit_top.proofs.annotating.add_file.Goals as goal

pub returns-in_ok-push-in-Ok : goal.returns-in_ok-push-in-Ok
returns-in_ok-push-in-Ok c =
    changes_added (input_seen c.args.input.now) _ _ _ _ c.in-Ok.fitted.changes (rw c.deref.ensures.value at c.in-Ok.ensures.text) c.text-text.ensures.order c.in-Ok.ensures.accepted c.in_ok-push-in-Ok.ensures.items refl

pub returns-in-Err-Fault : goal.returns-in-Err-Fault
returns-in-Err-Fault c =
    fault_added c.push_fault.result (input_seen c.args.input.now) _ _ _ _ c.in-Err-Fault.kind c.in-Err-Fault.line (rw (c.in-Err-Fault.field-0-is, c.deref.ensures.value) at c.in-Err-Fault.ensures.refused) c.push_fault.ensures
