-- Each port once, then each connection.
use Rattle.std.proofs.Common.{map, flat_map, option_map, ◌∙◌, ap}
use Rattle.std.proofs.lemmas.Result.{err_from_is_err_and}
use Rattle.vl_tree.specs.Seen.{view_expression, view_name}
use Rattle.elab_model.specs.Faults.{duplicates}
use Rattle.elab_modules.specs.Connecting.{connected_faults}
use Rattle.elab_modules.proofs.InTurn.{exit-first, tells-second}
use Rattle.elab_modules.proofs.Connected.{names-tell}
use Rattle.elab_modules.proofs.connections.check_all_named.Goals as goal

pub returns-in_err-check_once : goal.returns-in_err-check_once
returns-in_err-check_once c = λ m p.
    names-tell c.args.table.now m (map view_name c.deref.result.now) c.args.connections.now c.from_residual-in_err-check_once.result (ap (map view_name) c.deref.ensures.value ∙ c.in_ok-names.ensures)
    (exit-first (duplicates (map view_name c.deref.result.now)) (flat_map (λ k. connected_faults c.args.table.now m (view_name k.port) (option_map view_expression k.value)) c.args.connections.now)
    c.from_residual-in_err-check_once.result c.in_err-check_once.field-0.0
    (err_from_is_err_and c.from_residual-in_err-check_once.result c.from_residual-in_err-check_once.ensures.1) c.in_err-check_once.ensures.refused)

pub returns : goal.returns
returns c = λ m p.
    names-tell c.args.table.now m (map view_name c.deref.result.now) c.args.connections.now c.check_named.result (ap (map view_name) c.deref.ensures.value ∙ c.in_ok-names.ensures)
    (tells-second (duplicates (map view_name c.deref.result.now)) (flat_map (λ k. connected_faults c.args.table.now m (view_name k.port) (option_map view_expression k.value)) c.args.connections.now)
    c.check_named.result c.in_ok-check_once.ensures.faultless (c.check_named.ensures m p.table p.declared))
