-- Outputs, then inputs.
use Rattle.std.proofs.Common.{length, flat_map, rules, true, false, ◌≡◌, sym, ◌∙◌}
use Rattle.std.proofs.lemmas.Result.{err_from_is_err_and}
use Rattle.vl_tree.specs.Seen.{view_expression}
use Rattle.elab_modules.specs.Telling.{joined_faults}
use Rattle.elab_modules.proofs.InTurn.{exit-first, tells-second}
use Rattle.elab_modules.proofs.TerminalFaults.{count-refused, cut-tells}
use Rattle.elab_modules.proofs.gates.check_gate.Goals as goal

pub returns-then-not-takes_terminals : goal.returns-then-not-takes_terminals
returns-then-not-takes_terminals c =
    let n : c.len-count.result ≡ length c.args.instance.now.terminals.items = search rules in
    count-refused c.args.table.now c.args.kind c.args.instance.now c.len-count.result n (sym c.takes_terminals.ensures.count ∙ c.if-not-takes_terminals.true)

pub returns-in_err-check_terminals : goal.returns-in_err-check_terminals
returns-in_err-check_terminals c =
    let n : c.len-count.result ≡ length c.args.instance.now.terminals.items = search rules in
    cut-tells c.args.table.now c.args.kind c.args.instance.now c.output_count.result c.len-count.result c.deref.result.now c.split_at.result.0.now c.split_at.result.1.now c.from_residual.result
    c.deref.ensures.value n (sym c.takes_terminals.ensures.count ∙ c.if-not-takes_terminals.false) c.output_count.ensures.count c.split_at.ensures.front c.split_at.ensures.back
    (exit-first (flat_map (λ e. joined_faults c.args.table.now 1 true (view_expression e)) c.split_at.result.0.now)
    (flat_map (λ e. joined_faults c.args.table.now 1 false (view_expression e)) c.split_at.result.1.now)
    c.from_residual.result c.in_err-check_terminals.field-0.0 (err_from_is_err_and c.from_residual.result c.from_residual.ensures.1) c.in_err-check_terminals.ensures)

pub returns : goal.returns
returns c =
    let n : c.len-count.result ≡ length c.args.instance.now.terminals.items = search rules in
    cut-tells c.args.table.now c.args.kind c.args.instance.now c.output_count.result c.len-count.result c.deref.result.now c.split_at.result.0.now c.split_at.result.1.now
    c.check_terminals-2.result
    c.deref.ensures.value n (sym c.takes_terminals.ensures.count ∙ c.if-not-takes_terminals.false) c.output_count.ensures.count c.split_at.ensures.front c.split_at.ensures.back
    (tells-second (flat_map (λ e. joined_faults c.args.table.now 1 true (view_expression e)) c.split_at.result.0.now)
    (flat_map (λ e. joined_faults c.args.table.now 1 false (view_expression e)) c.split_at.result.1.now)
    c.check_terminals-2.result c.in_ok-check_terminals.ensures c.check_terminals-2.ensures)
