use Rattle.std.proofs.Common.{◌≡◌, ◌+◌, length}
use Rattle.vl_lex.specs.Effects.{bad_from}
use Rattle.vl_lex.proofs.piece_faults.bad_byte.Given as goal

abbrev pub invariant-loop-rest : goal.invariant-loop-rest
invariant-loop-rest l = record {
  same : bad_from l.behind l.rest ≡ bad_from 0 l.bytes;
  place : l.behind + length l.rest ≡ length l.bytes;
}

abbrev pub decreases-loop-rest : goal.decreases-loop-rest
decreases-loop-rest l = length l.rest
