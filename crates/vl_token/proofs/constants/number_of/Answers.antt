use Rattle.std.proofs.Common.{arith}
use Rattle.vl_token.proofs.BitLaws.{number_first}
use Rattle.vl_token.proofs.constants.number_of.Goals as goal

pub returns-in_err-number-clause-none : goal.returns-in_err-number-clause-none
returns-in_err-number-clause-none c =
    rw c.from_residual.ensures (omega (arith, number_first c.loop-rest.number c.loop-rest.rest.now (omega arith), c.loop-rest.invariant, c.in_err-number.ensures.none))
