-- So many parentheses are open behind the tokens so far.
use Rattle.written_faults.proofs.DepthLaws.{IsLeft}
use Rattle.written_faults.proofs.depths.is_deep.Given as goal

abbrev pub invariant-loop-token : goal.invariant-loop-token
invariant-loop-token l = IsLeft l.tokens l.token-index l.unclosed
