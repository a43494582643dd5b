-- The first terminal that has a fault is refused.
use Rattle.std.proofs.Common.{List, flat_map}
use Rattle.std.proofs.lemmas.Result.{err_from_is_err_and}
use Rattle.vl_tree.specs.Seen.{view_expression}
use Rattle.vl_tree.specs.declared.expressions.Expression as code
use Rattle.elab_model.specs.Faults.{Fault}
use Rattle.elab_modules.specs.Telling.{joined_faults}
use Rattle.elab_modules.proofs.InTurn.{exit, this-refused, next-faultless, none-left}
use Rattle.elab_modules.proofs.gates.check_terminals.Goals as goal

pub returns-in_err-check_joined : goal.returns-in_err-check_joined
returns-in_err-check_joined c =
    let f : code.Expression → List Fault = λ e. joined_faults c.args.table.now 1 c.args.are_outputs (view_expression e) in
    exit c.from_residual.result (flat_map f c.args.terminals.now) c.in_err-check_joined.field-0.0 (err_from_is_err_and c.from_residual.result c.from_residual.ensures.1)
    (this-refused f c.args.terminals.now c.loop-terminal.terminal-index c.terminal-item.result c.in_err-check_joined.field-0.0 c.loop-terminal-test.true c.terminal-item.is c.loop-terminal.invariant
    c.in_err-check_joined.ensures)

pub loop-terminal-preserved : goal.loop-terminal-preserved
loop-terminal-preserved c =
    next-faultless (λ e. joined_faults c.args.table.now 1 c.args.are_outputs (view_expression e)) c.args.terminals.now c.loop-terminal.terminal-index c.terminal-item.result c.loop-terminal-test.true
    c.terminal-item.is c.in_ok-check_joined.ensures c.loop-terminal.invariant

pub returns : goal.returns
returns c =
    none-left (λ e. joined_faults c.args.table.now 1 c.args.are_outputs (view_expression e)) c.args.terminals.now c.loop-terminal.terminal-index c.loop-terminal-test.false c.loop-terminal.invariant
