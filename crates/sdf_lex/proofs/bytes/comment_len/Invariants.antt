use Rattle.std.proofs.Common.{◌≡◌, ◌+◌, length}
use Rattle.vl_pieces.specs.Ends.{end_from}
use Rattle.sdf_lex.proofs.bytes.comment_len.Given as goal

abbrev pub invariant-loop-rest : goal.invariant-loop-rest
invariant-loop-rest l = record {
  same : end_from l.n 42 47 l.rest ≡ end_from 0 42 47 l.text;
  place : l.n + length l.rest ≡ length l.text;
}

abbrev pub decreases-loop-rest : goal.decreases-loop-rest
decreases-loop-rest l = length l.rest
