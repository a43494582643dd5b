-- The first connection that has a fault is refused.
use Rattle.std.proofs.Common.{List, flat_map, option_map}
use Rattle.std.proofs.lemmas.Result.{err_from_is_err_and}
use Rattle.vl_tree.specs.Seen.{view_expression, view_name}
use Rattle.vl_tree.specs.declared.items.NamedConnection as code
use Rattle.elab_model.specs.Faults.{Fault}
use Rattle.elab_modules.specs.Connecting.{connected_faults}
use Rattle.elab_modules.proofs.InTurn.{exit, this-refused, next-faultless, none-left}
use Rattle.elab_modules.proofs.connections.check_named.Goals as goal

pub returns-in_err-check_port : goal.returns-in_err-check_port
returns-in_err-check_port c = λ m is h.
    let f : code.NamedConnection → List Fault = λ k. connected_faults c.args.table.now m (view_name k.port) (option_map view_expression k.value) in
    exit c.from_residual.result (flat_map f c.args.connections.now) c.in_err-check_port.field-0.0 (err_from_is_err_and c.from_residual.result c.from_residual.ensures.1)
    (this-refused f c.args.connections.now c.loop-connection.connection-index c.connection-item.result c.in_err-check_port.field-0.0 c.loop-connection-test.true c.connection-item.is
    (c.loop-connection.invariant m is h) (c.in_err-check_port.ensures m is h))

pub loop-connection-preserved : goal.loop-connection-preserved
loop-connection-preserved c = λ m is h.
    next-faultless (λ k. connected_faults c.args.table.now m (view_name k.port) (option_map view_expression k.value)) c.args.connections.now c.loop-connection.connection-index c.connection-item.result
    c.loop-connection-test.true c.connection-item.is (c.in_ok-check_port.ensures m is h) (c.loop-connection.invariant m is h)

pub returns : goal.returns
returns c = λ m is h.
    none-left (λ k. connected_faults c.args.table.now m (view_name k.port) (option_map view_expression k.value)) c.args.connections.now c.loop-connection.connection-index c.loop-connection-test.false
    (c.loop-connection.invariant m is h)
