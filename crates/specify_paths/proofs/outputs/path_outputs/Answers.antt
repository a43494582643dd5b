-- All of a module's specify paths, and their faults.
use Rattle.std.specs.Prelude.{◌≡◌, flat_map, length, map}
use Rattle.std.proofs.Common.{sym, ◌∙◌, ap, subst}
use Rattle.std.proofs.lemmas.Result.{err_from_is_err_and}
use Rattle.sg_text.specs.declared.refusals.Refused.TheVariants as refused
use Rattle.vl_tree.specs.Seen.{view_module}
use Rattle.specify_model.specs.Blocks.{specify_items}
use Rattle.specify_model.specs.Faults.{faults_by}
use Rattle.specify_model.specs.Outputs.{style_of}
use Rattle.specify_model.specs.Paths.{paths_of}
use Rattle.specify_model.specs.PulseLimits.{limits_of}
use Rattle.specify_model.specs.Values.{value_of}
use Rattle.specify_values.specs.Seen.{limits_seen, measured, values_of, view_parameter, view_paths, view_pulse, view_style}
use Rattle.specify_values.proofs.InTurn.{exit}
use Rattle.elab_ends.specs.Seen.{AreApart, bit_seen}
use Rattle.specify_paths.specs.Seen.{ArePathsInRow, output_seen, said_of}
use Rattle.specify_paths.specs.Words.{grouped, style_at}
use Rattle.specify_paths.proofs.Between.{said-counted}
use Rattle.specify_paths.proofs.InOrder.{none-at_all, parameters-told, paths-told, pulses-told, styles-told}
use Rattle.elab_ends.proofs.RowBits.{places-apart}
use Rattle.specify_paths.proofs.Rows.{outputs-in_row}
use Rattle.specify_paths.proofs.Whole.{outputs-whole}
use Rattle.specify_paths.proofs.outputs.path_outputs.Goals as goal

pub styles_of-requires : goal.styles_of-requires
styles_of-requires c = subst AreApart (sym c.requires) (places-apart (view_module c.args.definition.now))

pub returns-in_err-parameters-clause-told : goal.returns-in_err-parameters-clause-told
returns-in_err-parameters-clause-told c =
    let by = measured c.args.by in
    let vs = c.args.table.now in
    let items = specify_items (view_module c.args.definition.now) in
    let r = c.in_err-parameters.field-0.0 in
    exit c.from_residual-in_err-parameters.result (faults_by by vs items) r (err_from_is_err_and c.from_residual-in_err-parameters.result c.from_residual-in_err-parameters.ensures.1)
    (parameters-told by vs items (map view_parameter c.deref.result.now) r (ap (map view_parameter) c.deref.ensures.value ∙ c.in_ok-items.ensures.parameters_are) c.in_err-parameters.ensures.refused)

pub returns-in_err-limits-clause-told : goal.returns-in_err-limits-clause-told
returns-in_err-limits-clause-told c =
    let by = measured c.args.by in
    let vs = c.args.table.now in
    let items = specify_items (view_module c.args.definition.now) in
    let r = c.in_err-limits.field-0.0 in
    exit c.from_residual-in_err-limits.result (faults_by by vs items) r (err_from_is_err_and c.from_residual-in_err-limits.result c.from_residual-in_err-limits.ensures.1)
    (pulses-told by vs items (map view_pulse c.deref-2.result.now) r (ap (map view_pulse) c.deref-2.ensures.value ∙ c.in_ok-items.ensures.pulses_are) c.in_err-limits.ensures.told)

pub returns-in_err-statements-clause-told : goal.returns-in_err-statements-clause-told
returns-in_err-statements-clause-told c =
    let by = measured c.args.by in
    let vs = c.args.table.now in
    let items = specify_items (view_module c.args.definition.now) in
    let r = c.in_err-statements.field-0.0 in
    exit c.from_residual-in_err-statements.result (faults_by by vs items) r (err_from_is_err_and c.from_residual-in_err-statements.result c.from_residual-in_err-statements.ensures.1)
    (paths-told by vs items (values_of c.in_ok-parameters.parameters) (view_paths c.in_ok-items.items.paths.items) r
    (c.in_ok-parameters.ensures.values ∙ ap value_of (ap (map view_parameter) c.deref.ensures.value ∙ c.in_ok-items.ensures.parameters_are))
    c.in_ok-items.ensures.paths_are c.in_err-statements.ensures.told)

pub returns-in_err-styles-clause-told : goal.returns-in_err-styles-clause-told
returns-in_err-styles-clause-told c =
    let by = measured c.args.by in
    let vs = c.args.table.now in
    let items = specify_items (view_module c.args.definition.now) in
    let r = c.in_err-styles.field-0.0 in
    exit c.from_residual-in_err-styles.result (faults_by by vs items) r (err_from_is_err_and c.from_residual-in_err-styles.result c.from_residual-in_err-styles.ensures.1)
    (styles-told by vs items (map view_style c.deref-3.result.now) r (ap (map view_style) c.deref-3.ensures.value ∙ c.in_ok-items.ensures.styles_are) c.in_err-styles.ensures.told)

pub returns-in_err-outputs-clause-told : goal.returns-in_err-outputs-clause-told
returns-in_err-outputs-clause-told c =
    exit c.from_residual-in_err-outputs.result (faults_by (measured c.args.by) c.args.table.now (specify_items (view_module c.args.definition.now))) refused.NoMemory
    (err_from_is_err_and c.from_residual-in_err-outputs.result c.from_residual-in_err-outputs.ensures.1) tt

pub returns-clause-outputs : goal.returns-clause-outputs
returns-clause-outputs c =
    let by = measured c.args.by in
    let vs = c.args.table.now in
    let items = specify_items (view_module c.args.definition.now) in
    let values = values_of c.in_ok-parameters.parameters in
    let limits = limits_seen c.in_ok-limits.limits in
    let said = map (said_of by vs values) (view_paths c.in_ok-items.items.paths.items) in
    let list = c.in_ok-statements.list.items in
    let os = c.in_ok-outputs.outputs.items in
    let style = style_at c.in_ok-styles.styles in
    let apart : AreApart vs = subst AreApart (sym c.requires) (places-apart (view_module c.args.definition.now)) in
    ap (λ s. map (output_seen vs s) os) c.in_ok-statements.ensures.said
    ∙ outputs-whole by vs items apart values limits (length c.in_ok-items.items.paths.items) said list os style
    (c.in_ok-parameters.ensures.values ∙ ap value_of (ap (map view_parameter) c.deref.ensures.value ∙ c.in_ok-items.ensures.parameters_are))
    (c.in_ok-limits.ensures.limits ∙ ap (limits_of by vs) (ap (map view_pulse) c.deref-2.ensures.value ∙ c.in_ok-items.ensures.pulses_are))
    (c.in_ok-statements.ensures.list ∙ ap (flat_map (paths_of by vs values limits)) c.in_ok-items.ensures.paths_are) c.in_ok-statements.ensures.row
    (c.in_ok-outputs.ensures ∙ ap (grouped style) c.deref-4.ensures.value)
    (λ k lt. c.in_ok-styles.ensures.styles k lt ∙ ap (λ ss. style_of vs ss (bit_seen vs k)) (ap (map view_style) c.deref-3.ensures.value ∙ c.in_ok-items.ensures.styles_are))

pub returns-clause-row : goal.returns-clause-row
returns-clause-row c =
    let vs = c.args.table.now in
    let ss = c.in_ok-statements.statements.items in
    let list = c.in_ok-statements.list.items in
    let style = style_at c.in_ok-styles.styles in
    let count : length ss ≡ length c.in_ok-items.items.paths.items = said-counted (measured c.args.by) vs (values_of c.in_ok-parameters.parameters) c.in_ok-items.items.paths.items ss c.in_ok-statements.ensures.said in
    outputs-in_row vs (length ss) style list c.in_ok-outputs.outputs.items (c.in_ok-outputs.ensures ∙ ap (grouped style) c.deref-4.ensures.value)
    (subst (λ n. ArePathsInRow vs n list) (sym count) c.in_ok-statements.ensures.row)

pub returns-clause-told : goal.returns-clause-told
returns-clause-told c =
    let by = measured c.args.by in
    let vs = c.args.table.now in
    let items = specify_items (view_module c.args.definition.now) in
    let parameters = ap (map view_parameter) c.deref.ensures.value ∙ c.in_ok-items.ensures.parameters_are in
    none-at_all by vs items (map view_parameter c.deref.result.now) (map view_pulse c.deref-2.result.now) (values_of c.in_ok-parameters.parameters) (view_paths c.in_ok-items.items.paths.items)
    (map view_style c.deref-3.result.now) parameters (ap (map view_pulse) c.deref-2.ensures.value ∙ c.in_ok-items.ensures.pulses_are) (c.in_ok-parameters.ensures.values ∙ ap value_of parameters)
    c.in_ok-items.ensures.paths_are (ap (map view_style) c.deref-3.ensures.value ∙ c.in_ok-items.ensures.styles_are) c.in_ok-parameters.ensures.faultless
    c.in_ok-limits.ensures.told c.in_ok-statements.ensures.told c.in_ok-styles.ensures.told
