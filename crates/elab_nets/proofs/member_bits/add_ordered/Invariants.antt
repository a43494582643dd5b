-- With those that are left, all will have come; and outputs stand in the row.
use Rattle.std.proofs.Common.{All, drop}
use Rattle.elab_bits.specs.Seen.{IsInRow}
use Rattle.elab_nets.proofs.MemberBits.{AreComing, ordered_of}
use Rattle.elab_nets.proofs.member_bits.add_ordered.Given as goal

abbrev pub invariant-loop-value : goal.invariant-loop-value
invariant-loop-value l = record {
  coming : AreComing l.table (ordered_of l.values) (ordered_of (drop l.value-index l.values)) l.initial.room l.room;
  row : All (IsInRow l.table) l.initial.room.outputs.items → All (IsInRow l.table) l.room.outputs.items;
}
