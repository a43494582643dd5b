-- What is open behind the tokens that are left is open behind all of them.
use Rattle.std.proofs.Common.{◌≡◌, ◌≤◌, length, map}
use Rattle.sdf_lex.specs.Seen.{lexeme}
use Rattle.sdf_read.specs.Depth.{AreShallow, depth_from}
use Rattle.sdf_read.proofs.depth.depth_after.Given as goal

abbrev pub invariant-loop-rest : goal.invariant-loop-rest
invariant-loop-rest l = record {
  few : l.open ≤ 32;
  same : depth_from l.open (map lexeme l.rest) ≡ depth_from l.depth (map lexeme l.tokens);
  shallow : AreShallow l.open (map lexeme l.rest) → AreShallow l.depth (map lexeme l.tokens);
}

abbrev pub decreases-loop-rest : goal.decreases-loop-rest
decreases-loop-rest l = length l.rest
