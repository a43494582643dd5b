-- The constants of the connections so far are there.
use Rattle.std.proofs.Common.{take}
use Rattle.elab_ports.specs.Placing.{Places}
use Rattle.elab_ports.proofs.Bindings.{named_values}
use Rattle.elab_ports.proofs.constants.add_named.Given as goal

abbrev pub invariant-loop-connection : goal.invariant-loop-connection
invariant-loop-connection l = Places l.parent l.child (named_values (take l.connection-index l.connections)) l.initial.list.items l.list.items
