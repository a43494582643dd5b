use Rattle.std.proofs.Common.{◌≡◌, length, map}
use Rattle.sdf_lex.specs.Operators.{operator_in, row}
use Rattle.sdf_lex.proofs.operators.operator_in.Given as goal

abbrev pub invariant-loop-rest : goal.invariant-loop-rest
invariant-loop-rest l = operator_in l.bytes (map row l.rest) ≡ operator_in l.bytes (map row l.rows)

abbrev pub decreases-loop-rest : goal.decreases-loop-rest
decreases-loop-rest l = length l.rest
