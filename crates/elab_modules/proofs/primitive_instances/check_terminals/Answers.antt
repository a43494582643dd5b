-- The output, then the inputs.
use Rattle.std.proofs.Common.{true, false, flat_map, option_map, drop, subst}
use Rattle.std.proofs.lemmas.Result.{err_from_is_err_and}
use Rattle.vl_tree.specs.Seen.{view_expression}
use Rattle.elab_modules.specs.Telling.{Tells, joined_value_faults}
use Rattle.elab_modules.proofs.InTurn.{exit-first, tells-second, first-and_rest, rest-of}
use Rattle.elab_modules.proofs.TerminalFaults.{output-told}
use Rattle.elab_modules.proofs.primitive_instances.check_terminals.Goals as goal

pub returns-in_err-check_value-in-len1-up : goal.returns-in_err-check_value-in-len1-up
returns-in_err-check_value-in-len1-up c =
    output-told c.args.table.now c.args.values.now c.output-item.result (drop 1 c.args.values.now) c.from_residual.result
    (first-and_rest c.args.values.now c.output-item.result c.in-len1-up.len_at_least c.output-item.is)
    (exit-first (joined_value_faults c.args.table.now 1 true (option_map view_expression c.output-item.result))
    (flat_map (λ v. joined_value_faults c.args.table.now 1 false (option_map view_expression v)) (drop 1 c.args.values.now)) c.from_residual.result c.in_err-check_value-in-len1-up.field-0.0
    (err_from_is_err_and c.from_residual.result c.from_residual.ensures.1) c.in_err-check_value-in-len1-up.ensures)

pub returns-in_ok-check_value-in-len1-up : goal.returns-in_ok-check_value-in-len1-up
returns-in_ok-check_value-in-len1-up c =
    output-told c.args.table.now c.args.values.now c.output-item.result (drop 1 c.args.values.now) c.check_inputs.result
    (first-and_rest c.args.values.now c.output-item.result c.in-len1-up.len_at_least c.output-item.is)
    (tells-second (joined_value_faults c.args.table.now 1 true (option_map view_expression c.output-item.result))
    (flat_map (λ v. joined_value_faults c.args.table.now 1 false (option_map view_expression v)) (drop 1 c.args.values.now)) c.check_inputs.result c.in_ok-check_value-in-len1-up.ensures
    (subst (λ xs. Tells (flat_map (λ v. joined_value_faults c.args.table.now 1 false (option_map view_expression v)) xs) c.check_inputs.result) (rest-of c.args.values.now) c.check_inputs.ensures))
