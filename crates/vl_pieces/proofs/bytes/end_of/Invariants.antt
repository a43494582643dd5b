use Rattle.std.proofs.Common.{◌≡◌, ◌+◌, length}
use Rattle.vl_pieces.specs.Ends.{end_from}
use Rattle.vl_pieces.proofs.bytes.end_of.Given as goal

abbrev pub invariant-loop-rest : goal.invariant-loop-rest
invariant-loop-rest l = record {
  same : end_from l.n l.first l.second l.rest ≡ end_from 0 l.first l.second l.text;
  place : l.n + length l.rest ≡ length l.text;
}

abbrev pub decreases-loop-rest : goal.decreases-loop-rest
decreases-loop-rest l = length l.rest
