use Rattle.std.proofs.Common.{◌≡◌, ◌≤◌, ◌++◌}
use Rattle.vl_token.specs.Constants.{low_bits}
use Rattle.vl_token.proofs.constants.put_low_bits.Given as goal

abbrev pub invariant-loop-left : goal.invariant-loop-left
invariant-loop-left l = record {
  most : l.left ≤ l.width;
  bits : l.bits.items ++ low_bits l.left l.number ≡ l.initial.bits.items ++ low_bits l.width l.number;
}

abbrev pub decreases-loop-left : goal.decreases-loop-left
decreases-loop-left l = l.left
