-- The first part that has a fault is refused, and where none has, neither has the whole.
use Rattle.std.proofs.lemmas.Result.{err_from_is_err_and}
use Rattle.vl_tree.specs.Seen.{view_expression}
use Rattle.elab_model.specs.TerminalFaults.{expression_faults}
use Rattle.elab_variables.proofs.Refusals.{exit}
use Rattle.elab_bits.proofs.PartsLeft.{part-refused, all-faultless}
use Rattle.elab_bits.proofs.faults.+check_expression.Goals as goal

pub returns-in_err-check_expression-in-Concatenation-clause-refused : goal.returns-in_err-check_expression-in-Concatenation-clause-refused
returns-in_err-check_expression-in-Concatenation-clause-refused t c =
    exit c.from_residual.result (expression_faults c.args.table.now (view_expression c.args.expression.now)) c.in_err-check_expression-in-Concatenation.field-0.0
    (err_from_is_err_and c.from_residual.result c.from_residual.ensures.1)
    (part-refused c.args.table.now c.args.expression.now c.in-Concatenation.place c.in-Concatenation.parts c.deref-part-items.result.now c.loop-part.part-index c.part-item.result
    c.in_err-check_expression-in-Concatenation.field-0.0
    c.in-Concatenation.is c.deref-part-items.ensures.value c.loop-part-test.true c.part-item.is c.loop-part.invariant c.in_err-check_expression-in-Concatenation.ensures.refused)

pub returns-after-loop-part-clause-faultless : goal.returns-after-loop-part-clause-faultless
returns-after-loop-part-clause-faultless t c =
    all-faultless c.args.table.now c.args.expression.now c.in-Concatenation.place c.in-Concatenation.parts c.deref-part-items.result.now c.loop-part.part-index
    c.in-Concatenation.is c.deref-part-items.ensures.value c.loop-part-test.false c.loop-part.invariant
