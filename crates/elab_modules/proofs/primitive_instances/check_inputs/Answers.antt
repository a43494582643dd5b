-- The first input that has a fault is refused.
use Rattle.std.proofs.Common.{List, Option, false, flat_map, option_map}
use Rattle.std.proofs.lemmas.Result.{err_from_is_err_and}
use Rattle.vl_tree.specs.Seen.{view_expression}
use Rattle.vl_tree.specs.declared.expressions.Expression as code
use Rattle.elab_model.specs.Faults.{Fault}
use Rattle.elab_modules.specs.Telling.{joined_value_faults}
use Rattle.elab_modules.proofs.InTurn.{exit, this-refused, next-faultless, none-left}
use Rattle.elab_modules.proofs.primitive_instances.check_inputs.Goals as goal

pub returns-in_err-check_value : goal.returns-in_err-check_value
returns-in_err-check_value c =
    let f : Option code.Expression → List Fault = λ v. joined_value_faults c.args.table.now 1 false (option_map view_expression v) in
    exit c.from_residual.result (flat_map f c.args.values.now) c.in_err-check_value.field-0.0 (err_from_is_err_and c.from_residual.result c.from_residual.ensures.1)
    (this-refused f c.args.values.now c.loop-value.value-index c.value-item.result c.in_err-check_value.field-0.0 c.loop-value-test.true c.value-item.is c.loop-value.invariant
    c.in_err-check_value.ensures)

pub loop-value-preserved : goal.loop-value-preserved
loop-value-preserved c =
    next-faultless (λ v. joined_value_faults c.args.table.now 1 false (option_map view_expression v)) c.args.values.now c.loop-value.value-index c.value-item.result c.loop-value-test.true
    c.value-item.is
    c.in_ok-check_value.ensures c.loop-value.invariant

pub returns : goal.returns
returns c = none-left (λ v. joined_value_faults c.args.table.now 1 false (option_map view_expression v)) c.args.values.now c.loop-value.value-index c.loop-value-test.false c.loop-value.invariant
