-- What is there, followed by what is left, is the whole.
use Rattle.std.proofs.Common.{◌≡◌, ◌++◌, All, map, flat_map, drop}
use Rattle.vl_tree.specs.Seen.{view_expression}
use Rattle.elab_model.specs.Bits as def
use Rattle.elab_bits.specs.Seen.{view_bit, IsInRow}
use Rattle.elab_bits.proofs.bits.+add_bits.Given as goal

abbrev pub decreases-add_bits : goal.decreases-add_bits
decreases-add_bits l = goal.size-add_bits l

abbrev pub invariant-loop-part : goal.invariant-loop-part
invariant-loop-part l = record {
  bits : map (view_bit l.table) l.bits.items ++ flat_map (def.bits l.table) (map view_expression (drop l.part-index l.part-items)) ≡ map (view_bit l.table) l.initial.bits.items ++ flat_map
      (def.bits l.table) (map view_expression l.part-items);
  row : All (IsInRow l.table) l.initial.bits.items → All (IsInRow l.table) l.bits.items;
}
