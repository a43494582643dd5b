-- One connection more.
use Rattle.std.proofs.Common.{rules}
use Rattle.elab_ports.proofs.Placings.{named-next}
use Rattle.elab_ports.proofs.constants.add_named.Goals as goal

pub loop-connection-preserved : goal.loop-connection-preserved
loop-connection-preserved c =
    named-next c.args.parent.now c.args.child.now c.connection-item.result c.args.connections.now c.loop-connection.connection-index c.args.list.now.items c.loop-connection.list.items
    c.add_value.new.list.items
    c.loop-connection-test.true (search rules) c.loop-connection.invariant c.in_ok-add_value.ensures
