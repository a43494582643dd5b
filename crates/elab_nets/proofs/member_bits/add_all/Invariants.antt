-- With those that are left, all will have come; and outputs stand in the row.
use Rattle.std.proofs.Common.{All, drop, map}
use Rattle.vl_tree.specs.Seen.{view_expression}
use Rattle.elab_bits.specs.Seen.{IsInRow}
use Rattle.elab_nets.proofs.MemberBits.{AreComing}
use Rattle.elab_nets.proofs.member_bits.add_all.Given as goal

abbrev pub invariant-loop-terminal : goal.invariant-loop-terminal
invariant-loop-terminal l = record {
  coming : AreComing l.table (map view_expression l.terminals) (map view_expression (drop l.terminal-index l.terminals)) l.initial.room l.room;
  row : All (IsInRow l.table) l.initial.room.outputs.items → All (IsInRow l.table) l.room.outputs.items;
}
