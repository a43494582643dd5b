-- One connection more.
use Rattle.std.proofs.Common.{rules}
use Rattle.elab_ports.proofs.Bindings.{named-next}
use Rattle.elab_ports.proofs.bound.bind_named.Goals as goal

pub loop-connection-preserved : goal.loop-connection-preserved
loop-connection-preserved c =
    named-next c.args.parent.now c.args.child.now c.connection-item.result c.args.connections.now c.loop-connection.connection-index c.args.row.now c.loop-connection.row c.bind_value.new.row
    c.loop-connection-test.true (search rules) c.loop-connection.invariant c.in_ok-bind_value.ensures
