use Rattle.std.proofs.Common.{length, reverse}
use Rattle.cond_expr.specs.Begun.{EndsBelow}
use Rattle.cond_expr.specs.Tree.{view}
use Rattle.cond_expr.proofs.joining.joined.Given as goal

-- the chains that are left make the same of the part so far
abbrev pub invariant-loop-chain : goal.invariant-loop-chain
invariant-loop-chain l = EndsBelow l.level (reverse l.fn.begun.items) (view l.fn.part) (reverse l.begun.items) (view l.part)

abbrev pub decreases-loop-chain : goal.decreases-loop-chain
decreases-loop-chain l = length l.begun.items
