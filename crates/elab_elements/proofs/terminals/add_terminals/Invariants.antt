-- The terminals so far have their bits, and so many outputs are still to come.
use Rattle.std.proofs.Common.{map, take}
use Rattle.vl_tree.specs.Seen.{view_expression}
use Rattle.elab_elements.specs.Terminals.{AreBitsInRow}
use Rattle.elab_elements.proofs.TerminalBits.{AreAdded}
use Rattle.elab_elements.proofs.terminals.add_terminals.Given as goal

abbrev pub invariant-loop-terminal : goal.invariant-loop-terminal
invariant-loop-terminal l = record {
  added : AreAdded l.table l.outputs l.rest (map view_expression (take l.terminal-index l.terminals)) l.initial.room l.room;
  row : AreBitsInRow l.table l.initial.room → AreBitsInRow l.table l.room;
}
