-- The connections so far are in the row.
use Rattle.std.proofs.Common.{length}
use Rattle.elab_ports.specs.Binding.{Binds}
use Rattle.elab_ports.proofs.Bindings.{ordered_values}
use Rattle.elab_ports.proofs.bound.bind_ordered.Given as goal

abbrev pub invariant-loop-port : goal.invariant-loop-port
invariant-loop-port l =
    (goal.iterator-loop-port).can_next l.port-iterator
    × (goal.iterator-loop-port).is_finite l.port-iterator
    × Binds l.parent l.child (ordered_values (length l.yielded) l.ports l.values) l.initial.row l.row
