-- The connections so far are in the row.
use Rattle.std.proofs.Common.{take}
use Rattle.elab_ports.specs.Binding.{Binds}
use Rattle.elab_ports.proofs.Bindings.{named_values}
use Rattle.elab_ports.proofs.bound.bind_named.Given as goal

abbrev pub invariant-loop-connection : goal.invariant-loop-connection
invariant-loop-connection l = Binds l.parent l.child (named_values (take l.connection-index l.connections)) l.initial.row l.row
