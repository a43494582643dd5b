-- The reference's name, then the data's.
use Rattle.std.proofs.Common.{subst}
use Rattle.std.proofs.lemmas.Result.{err_from_is_err_and}
use Rattle.elab_modules.specs.Telling.{Tells}
use Rattle.elab_modules.proofs.DelayedFaults.{name_faults, both-names}
use Rattle.elab_modules.proofs.InTurn.{exit-first, tells-second}
use Rattle.elab_modules.proofs.delayed.check_delayed.Goals as goal

pub returns-in_err-check_name : goal.returns-in_err-check_name
returns-in_err-check_name c =
    subst (λ fs. Tells fs c.from_residual.result) (both-names c.args.table.now c.args.check.now _ _ _ _ _ _ _ _ _ c.in-TwoLimits.is)
    (exit-first (name_faults c.args.table.now c.in-TwoLimits.delayed_reference) (name_faults c.args.table.now c.in-TwoLimits.delayed_data) c.from_residual.result c.in_err-check_name.field-0.0
    (err_from_is_err_and c.from_residual.result c.from_residual.ensures.1) c.in_err-check_name.ensures)

pub returns : goal.returns
returns c =
    subst (λ fs. Tells fs c.check_name-2.result) (both-names c.args.table.now c.args.check.now _ _ _ _ _ _ _ _ _ c.in-TwoLimits.is)
    (tells-second (name_faults c.args.table.now c.in-TwoLimits.delayed_reference) (name_faults c.args.table.now c.in-TwoLimits.delayed_data) c.check_name-2.result c.in_ok-check_name.ensures c.check_name-2.ensures)
