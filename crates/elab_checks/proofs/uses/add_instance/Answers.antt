-- What stands ready of the instance.
use Rattle.std.specs.Prelude.{All, length}
use Rattle.std.proofs.Common.{ap, subst, sym}
use Rattle.std.proofs.lemmas.Result.{on_ok_weaker}
use Rattle.elab_model.specs.Nets.{nets}
use Rattle.circuit_model.specs.PathUses.{bit_number}
use Rattle.elab_paths.proofs.Putting.{if_err-weaker}
use Rattle.elab_paths.proofs.UsesSoFar.{row-is}
use Rattle.elab_checks.specs.Uses.{IsUsableCheck}
use Rattle.elab_checks.proofs.InstanceChecks.{ready-found, prepared-is, row-within, here-is, lates-there, checks-found, checks-usable}
use Rattle.elab_checks.proofs.InstanceTurn.{instance-uses, instance-refused}
use Rattle.elab_checks.proofs.uses.add_instance.Goals as goal

pub module_at-prepared-requires : goal.module_at-prepared-requires
module_at-prepared-requires c = ready-found _ _ _ _ _ _ _ _ _ _ _ _ c.requires.at.1.1.1.1.1

pub row_of-requires : goal.row_of-requires
row_of-requires c =
    let h = c.requires.at.1.1.1.1.1 in
    row-within _ _ _ _ _ _ _ _ _ _ _ _ h c.module_at-prepared.result.now c.bits.result (prepared-is _ _ _ _ _ _ _ _ _ _ _ _ h c.module_at-prepared.result.now c.module_at-prepared.ensures) c.bits.ensures

pub checks_at-checks-requires : goal.checks_at-checks-requires
checks_at-checks-requires c = checks-found _ _ _ _ _ _ _ _ _ _ _ _ c.requires.at.1.1.1.1.1

pub add_checks-requires-clause-row : goal.add_checks-requires-clause-row
add_checks-requires-clause-row c =
    let h = c.requires.at.1.1.1.1.1 in
    let q = c.module_at-prepared.result.now in
    let row = c.row_of.result.now in
    let source = c.requires.at.0 in
    let top = c.requires.at.1.0 in
    let s = c.requires.at.1.1.1.1.0 in
    let here = here-is _ _ _ _ _ _ _ _ _ _ _ _ h q c.bits.result row (prepared-is _ _ _ _ _ _ _ _ _ _ _ _ h q c.module_at-prepared.ensures) c.bits.ensures c.row_of.ensures in
    (bit_number (nets source top) source s, row-is (nets source top) source s q.table row here.numbers)

pub add_checks-requires-clause-usable : goal.add_checks-requires-clause-usable
add_checks-requires-clause-usable c =
    let h = c.requires.at.1.1.1.1.1 in
    let q = c.module_at-prepared.result.now in
    subst (λ n. All (IsUsableCheck q.table c.args.conditions.now n) c.checks_at-checks.result.now) (sym (ap length c.of.ensures))
    (checks-usable _ _ _ _ _ _ _ _ _ _ _ _ h q c.checks_at-checks.result.now (prepared-is _ _ _ _ _ _ _ _ _ _ _ _ h q c.module_at-prepared.ensures) c.checks_at-checks.ensures)

pub of-requires : goal.of-requires
of-requires c = lates-there _ _ _ _ _ _ _ _ _ _ _ _ c.requires.at.1.1.1.1.1

pub returns-clause-uses : goal.returns-clause-uses
returns-clause-uses c =
    let q = c.module_at-prepared.result.now in
    let row = c.row_of.result.now in
    let checks = c.checks_at-checks.result.now in
    on_ok_weaker c.add_checks.result
    (λ added. λ source top corner list s us h u.
    let prepared = prepared-is source top corner c.args.library.now c.args.modules.now c.args.conditions.now list c.args.rows.now c.args.lates.now c.args.number c.args.placed.now s h q c.module_at-prepared.ensures in
    let here = here-is source top corner c.args.library.now c.args.modules.now c.args.conditions.now list c.args.rows.now c.args.lates.now c.args.number c.args.placed.now s h q c.bits.result row prepared c.bits.ensures c.row_of.ensures in
    instance-uses source top corner c.args.library.now c.args.modules.now c.args.conditions.now list c.args.rows.now c.args.lates.now c.args.number c.args.placed.now s h q prepared checks c.checks_at-checks.ensures row c.of.result.now c.of.ensures c.args.made.now
    c.add_checks.new.made us here added u)
    c.add_checks.ensures.uses

pub returns-clause-refused : goal.returns-clause-refused
returns-clause-refused c =
    let q = c.module_at-prepared.result.now in
    let checks = c.checks_at-checks.result.now in
    if_err-weaker c.add_checks.result _ _
    (λ r refused. λ source top corner list s h.
    let prepared = prepared-is source top corner c.args.library.now c.args.modules.now c.args.conditions.now list c.args.rows.now c.args.lates.now c.args.number c.args.placed.now s h q c.module_at-prepared.ensures in
    instance-refused source top corner c.args.library.now c.args.modules.now c.args.conditions.now list c.args.rows.now c.args.lates.now c.args.number c.args.placed.now s h q prepared checks c.checks_at-checks.ensures c.args.made.now r refused)
    c.add_checks.ensures.refused
