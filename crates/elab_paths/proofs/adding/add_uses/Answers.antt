-- What stands ready of the instance.
use Rattle.std.proofs.Common.{All, subst, sym}
use Rattle.std.proofs.lemmas.Result.{on_ok_weaker}
use Rattle.elab_model.specs.Nets.{nets}
use Rattle.circuit_model.specs.PathUses.{bit_number}
use Rattle.elab_elements.proofs.Putting.{if_err-weaker}
use Rattle.elab_paths.specs.Uses.{IsUsable}
use Rattle.elab_paths.proofs.InstanceTurn.{instance-uses, instance-refused}
use Rattle.elab_paths.proofs.InstanceUses.{ready-found, prepared-is, row-within, numbers-are, outputs-found, outputs-usable}
use Rattle.elab_paths.proofs.UsesSoFar.{row-is}
use Rattle.elab_paths.proofs.adding.add_uses.Goals as goal

pub module_at-prepared-requires : goal.module_at-prepared-requires
module_at-prepared-requires c = ready-found _ _ _ _ _ _ _ _ _ _ c.requires.at.1.1.1.1.1

pub row_of-requires : goal.row_of-requires
row_of-requires c =
    let h = c.requires.at.1.1.1.1.1 in
    row-within _ _ _ _ _ _ _ _ _ _ h c.module_at-prepared.result.now c.bits.result (prepared-is _ _ _ _ _ _ _ _ _ _ h c.module_at-prepared.result.now c.module_at-prepared.ensures) c.bits.ensures

pub outputs_at-outputs-requires : goal.outputs_at-outputs-requires
outputs_at-outputs-requires c = outputs-found _ _ _ _ _ _ _ _ _ _ c.requires.at.1.1.1.1.1

pub add_all_uses-requires-clause-row : goal.add_all_uses-requires-clause-row
add_all_uses-requires-clause-row c =
    let h = c.requires.at.1.1.1.1.1 in
    let q = c.module_at-prepared.result.now in
    let row = c.row_of.result.now in
    let source = c.requires.at.0 in
    let top = c.requires.at.1.0 in
    let s = c.requires.at.1.1.1.1.0 in
    let here = numbers-are _ _ _ _ _ _ _ _ _ _ h q c.bits.result row (prepared-is _ _ _ _ _ _ _ _ _ _ h q c.module_at-prepared.ensures) c.bits.ensures c.row_of.ensures in
    (bit_number (nets source top) source s, row-is (nets source top) source s q.table row here)

pub add_all_uses-requires-clause-usable : goal.add_all_uses-requires-clause-usable
add_all_uses-requires-clause-usable c =
    let h = c.requires.at.1.1.1.1.1 in
    let q = c.module_at-prepared.result.now in
    let list = c.outputs_at-outputs.result.now in
    subst (λ cs. All (IsUsable q.table cs) list) (sym c.deref.ensures.value)
    (outputs-usable _ _ _ _ _ _ _ _ _ _ h q list (prepared-is _ _ _ _ _ _ _ _ _ _ h q c.module_at-prepared.ensures) c.outputs_at-outputs.ensures)

pub returns-clause-uses : goal.returns-clause-uses
returns-clause-uses c =
    let q = c.module_at-prepared.result.now in
    let row = c.row_of.result.now in
    let outputs = c.outputs_at-outputs.result.now in
    on_ok_weaker c.add_all_uses.result
    (λ added. λ source top corner list s us h u.
    let prepared = prepared-is source top corner c.args.library.now c.args.modules.now list c.args.rows.now c.args.number c.args.placed.now s h q c.module_at-prepared.ensures in
    let here = numbers-are source top corner c.args.library.now c.args.modules.now list c.args.rows.now c.args.number c.args.placed.now s h q c.bits.result row prepared c.bits.ensures c.row_of.ensures in
    instance-uses source top corner c.args.library.now c.args.modules.now list c.args.rows.now c.args.number c.args.placed.now s h q prepared outputs c.outputs_at-outputs.ensures c.deref.result.now row c.args.uses.now
    c.add_all_uses.new.uses us c.deref.ensures.value here added u)
    c.add_all_uses.ensures.uses

pub returns-clause-refused : goal.returns-clause-refused
returns-clause-refused c =
    let q = c.module_at-prepared.result.now in
    let outputs = c.outputs_at-outputs.result.now in
    if_err-weaker c.add_all_uses.result _ _
    (λ r refused. λ source top corner list s h.
    let prepared = prepared-is source top corner c.args.library.now c.args.modules.now list c.args.rows.now c.args.number c.args.placed.now s h q c.module_at-prepared.ensures in
    instance-refused source top corner c.args.library.now c.args.modules.now list c.args.rows.now c.args.number c.args.placed.now s h q prepared outputs c.outputs_at-outputs.ensures c.args.uses.now r refused)
    c.add_all_uses.ensures.refused
