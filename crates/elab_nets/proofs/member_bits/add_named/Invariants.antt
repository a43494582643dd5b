-- With those that are left, all will have come; and outputs stand in the row.
use Rattle.std.proofs.Common.{All, drop}
use Rattle.elab_bits.specs.Seen.{IsInRow}
use Rattle.elab_nets.proofs.MemberBits.{AreComing, named_of}
use Rattle.elab_nets.proofs.member_bits.add_named.Given as goal

abbrev pub invariant-loop-connection : goal.invariant-loop-connection
invariant-loop-connection l = record {
  coming : AreComing l.table (named_of l.connections) (named_of (drop l.connection-index l.connections)) l.initial.room l.room;
  row : All (IsInRow l.table) l.initial.room.outputs.items → All (IsInRow l.table) l.room.outputs.items;
}
