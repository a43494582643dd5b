-- The connections so far have their bits, and so many outputs are still to come.
use Rattle.std.proofs.Common.{filter_map, map, option_map, take}
use Rattle.vl_tree.specs.Seen.{view_expression}
use Rattle.elab_elements.specs.Terminals.{AreBitsInRow}
use Rattle.elab_elements.proofs.TerminalBits.{AreAdded}
use Rattle.elab_elements.proofs.terminals.add_ordered.Given as goal

abbrev pub invariant-loop-value : goal.invariant-loop-value
invariant-loop-value l = record {
  added : AreAdded l.table l.outputs l.rest (filter_map (λ e. e) (map (option_map view_expression) (take l.value-index l.values))) l.initial.room l.room;
  row : AreBitsInRow l.table l.initial.room → AreBitsInRow l.table l.room;
}
