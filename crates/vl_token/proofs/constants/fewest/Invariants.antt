use Rattle.std.proofs.Common.{◌≡◌, length}
use Rattle.vl_token.specs.Constants.{fewest}
use Rattle.vl_token.proofs.constants.fewest.Given as goal

abbrev pub invariant-loop-rest : goal.invariant-loop-rest
invariant-loop-rest l = fewest l.rest ≡ fewest l.bits

abbrev pub decreases-loop-rest : goal.decreases-loop-rest
decreases-loop-rest l = length l.rest
