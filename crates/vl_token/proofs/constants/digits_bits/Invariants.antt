use Rattle.std.proofs.Common.{◌≡◌, ◌++◌, length}
use Rattle.std.specs.List.{flat_map}
use Rattle.vl_token.specs.Constants.{digit_bits}
use Rattle.vl_token.proofs.constants.digits_bits.Given as goal

abbrev pub invariant-loop-rest : goal.invariant-loop-rest
invariant-loop-rest l = l.bits.items ++ flat_map (digit_bits l.width) l.rest ≡ flat_map (digit_bits l.width) l.digits

abbrev pub decreases-loop-rest : goal.decreases-loop-rest
decreases-loop-rest l = length l.rest
