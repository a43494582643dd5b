-- The parts of a specify path one after another.
use Rattle.std.specs.Prelude.{map}
use Rattle.std.proofs.Common.{sym, ◌∙◌, ap, subst}
use Rattle.std.proofs.lemmas.Result.{err_from_is_err_and}
use Rattle.vl_tree.specs.Seen.{view_amounts, view_path}
use Rattle.elab_model.specs.Faults.{RefusesOneOf}
use Rattle.specify_model.specs.Faults.{list_faults}
use Rattle.specify_model.specs.Values.{expanded}
use Rattle.specify_values.specs.Seen.{measured, values_of}
use Rattle.specify_values.proofs.InTurn.{exit}
use Rattle.specify_paths.proofs.InOrder.{rest, own-told, source-told, list-told, statement-faultless}
use Rattle.specify_paths.proofs.Stating.{said-whole}
use Rattle.specify_paths.specs.Seen.{condition_seen}
use Rattle.specify_paths.proofs.statements.statement_of.Goals as goal

pub returns-in_err-condition-clause-told : goal.returns-in_err-condition-clause-told
returns-in_err-condition-clause-told c =
    let p = view_path c.args.path.now in
    exit c.from_residual.result (rest (measured c.args.by) c.args.table.now (values_of c.args.parameters.now) p) c.in_err-condition.field-0.0
    (err_from_is_err_and c.from_residual.result c.from_residual.ensures.1)
    (own-told (measured c.args.by) c.args.table.now (values_of c.args.parameters.now) p c.in_err-condition.field-0.0 c.in_err-condition.ensures.told)

pub returns-in_err-check_data_source-clause-told : goal.returns-in_err-check_data_source-clause-told
returns-in_err-check_data_source-clause-told c =
    let p = view_path c.args.path.now in
    exit c.from_residual-in_err-check_data_source.result (rest (measured c.args.by) c.args.table.now (values_of c.args.parameters.now) p) c.in_err-check_data_source.field-0.0
    (err_from_is_err_and c.from_residual-in_err-check_data_source.result c.from_residual-in_err-check_data_source.ensures.1)
    (source-told (measured c.args.by) c.args.table.now (values_of c.args.parameters.now) p c.in_err-check_data_source.field-0.0 c.in_err-check_data_source.ensures)

pub returns-in_err-delays-clause-told : goal.returns-in_err-delays-clause-told
returns-in_err-delays-clause-told c =
    let p = view_path c.args.path.now in
    exit c.from_residual-in_err-delays.result (rest (measured c.args.by) c.args.table.now (values_of c.args.parameters.now) p) c.in_err-delays.field-0.0
    (err_from_is_err_and c.from_residual-in_err-delays.result c.from_residual-in_err-delays.ensures.1)
    (list-told (measured c.args.by) c.args.table.now (values_of c.args.parameters.now) p c.in_err-delays.field-0.0
    (subst (λ ds. RefusesOneOf (list_faults (measured c.args.by) (values_of c.args.parameters.now) p.place (map view_amounts ds)) c.in_err-delays.field-0.0) c.deref.ensures.value
    c.in_err-delays.ensures.told))

pub returns-clause-said : goal.returns-clause-said
returns-clause-said c =
    said-whole (measured c.args.by) c.args.table.now (values_of c.args.parameters.now) (view_path c.args.path.now) c.option_edge.result
    (condition_seen c.args.table.now c.in_ok-condition.condition) c.in_ok-delays.delays c.option_edge.ensures c.in_ok-condition.ensures.condition
    (ap (λ ds. expanded (measured c.args.by) (values_of c.args.parameters.now) (map view_amounts ds)) (sym c.deref.ensures.value) ∙ c.in_ok-delays.ensures.delays)

pub returns-clause-told : goal.returns-clause-told
returns-clause-told c =
    let p = view_path c.args.path.now in
    statement-faultless (measured c.args.by) c.args.table.now (values_of c.args.parameters.now) p c.in_ok-condition.ensures.told c.in_ok-check_data_source.ensures
    (ap (λ ds. list_faults (measured c.args.by) (values_of c.args.parameters.now) p.place (map view_amounts ds)) (sym c.deref.ensures.value) ∙ c.in_ok-delays.ensures.told)
