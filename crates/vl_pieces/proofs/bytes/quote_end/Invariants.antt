use Rattle.std.proofs.Common.{◌≡◌, ◌+◌, length}
use Rattle.vl_pieces.specs.Ends.{quote_from}
use Rattle.vl_pieces.proofs.bytes.quote_end.Given as goal

abbrev pub invariant-loop-rest : goal.invariant-loop-rest
invariant-loop-rest l = record {
  same : quote_from l.n l.rest ≡ quote_from 0 l.text;
  place : l.n + length l.rest ≡ length l.text;
}

abbrev pub decreases-loop-rest : goal.decreases-loop-rest
decreases-loop-rest l = length l.rest
