-- Pairs of parentheses were taken off.
use Rattle.std.proofs.Common.{length}
use Rattle.cond_expr.proofs.Cores.{Within}
use Rattle.written_entries.proofs.conditions.bare.Given as goal

abbrev pub invariant-loop-inner : goal.invariant-loop-inner
invariant-loop-inner l = Within l.tokens l.left

abbrev pub decreases-loop-inner : goal.decreases-loop-inner
decreases-loop-inner l = length l.left
