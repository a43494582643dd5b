-- The checks of the module's texts, by its specparams.
use Rattle.std.proofs.Common.{◌∙◌, sym, subst}
use Rattle.std.specs.List.{AllByRecursion}
use Rattle.std.proofs.lemmas.Result.{err_from_is_err_and}
use Rattle.vl_tree.specs.Seen.{view_module}
use Rattle.elab_model.specs.Faults.{RefusesOneOf}
use Rattle.specify_model.specs.Blocks.{specify_items}
use Rattle.specify_model.specs.CheckFaults.{all_check_faults}
use Rattle.specify_values.specs.Seen.{measured, values_of}
use Rattle.specify_values.proofs.InTurn.{exit}
use Rattle.specify_checks.specs.Copies.{IsCheckOf}
use Rattle.specify_checks.proofs.Asked.{all-asked}
use Rattle.specify_checks.proofs.Whole.{values-are, faults-same, checks-same}
use Rattle.specify_checks.proofs.checks.module_checks.Goals as goal

pub returns-in_err-checks-clause-told : goal.returns-in_err-checks-clause-told
returns-in_err-checks-clause-told c =
    let items = specify_items (view_module c.args.definition.now) in
    let by = measured c.args.by in
    let gathered = c.in_ok-items.items in
    let values = values_of c.in_ok-parameters.parameters in
    let r = c.in_err-checks.field-0.0 in
    exit c.from_residual-in_err-checks.result (all_check_faults c.args.copies.now.signals by c.args.table.now items) r
    (err_from_is_err_and c.from_residual-in_err-checks.result c.from_residual-in_err-checks.ensures.1)
    (subst (λ fs. RefusesOneOf fs r)
    (faults-same c.args.copies.now.signals by c.args.table.now items values gathered.checks.items
    (values-are items gathered c.deref.result.now values c.in_ok-items.ensures c.deref.ensures.value c.in_ok-parameters.ensures) c.in_ok-items.ensures.checks_are)
    c.in_err-checks.ensures.told)

pub returns-clause-checks : goal.returns-clause-checks
returns-clause-checks c =
    let items = specify_items (view_module c.args.definition.now) in
    let gathered = c.in_ok-items.items in
    let values = values_of c.in_ok-parameters.parameters in
    c.in_ok-checks.ensures.checks
    ∙ checks-same c.args.copies.now.signals (measured c.args.by) c.args.table.now items values gathered.checks.items
    (values-are items gathered c.deref.result.now values c.in_ok-items.ensures c.deref.ensures.value c.in_ok-parameters.ensures) c.in_ok-items.ensures.checks_are

pub returns-clause-told : goal.returns-clause-told
returns-clause-told c =
    let items = specify_items (view_module c.args.definition.now) in
    let gathered = c.in_ok-items.items in
    let values = values_of c.in_ok-parameters.parameters in
    sym (faults-same c.args.copies.now.signals (measured c.args.by) c.args.table.now items values gathered.checks.items
    (values-are items gathered c.deref.result.now values c.in_ok-items.ensures c.deref.ensures.value c.in_ok-parameters.ensures) c.in_ok-items.ensures.checks_are)
    ∙ c.in_ok-checks.ensures.told

pub all_checks-requires : goal.all_checks-requires
all_checks-requires c =
    let m = view_module c.args.definition.now in
    record {
      asked = (
        m,
        subst (AllByRecursion (IsCheckOf m c.args.table.now c.args.copies.now)) (sym c.in_ok-items.ensures.checks_are) (all-asked m c.args.table.now c.args.copies.now c.requires.readable),
      );
    }
