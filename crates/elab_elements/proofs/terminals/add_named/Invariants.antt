-- The connections so far have their bits, and so many outputs are still to come.
use Rattle.std.proofs.Common.{filter_map, map, take}
use Rattle.vl_tree.specs.Seen.{view_named_connection}
use Rattle.elab_elements.specs.Terminals.{AreBitsInRow}
use Rattle.elab_elements.proofs.TerminalBits.{AreAdded}
use Rattle.elab_elements.proofs.terminals.add_named.Given as goal

abbrev pub invariant-loop-connection : goal.invariant-loop-connection
invariant-loop-connection l = record {
  added : AreAdded l.table l.outputs l.rest (filter_map (λ c. c.value) (map view_named_connection (take l.connection-index l.connections))) l.initial.room l.room;
  row : AreBitsInRow l.table l.initial.room → AreBitsInRow l.table l.room;
}
