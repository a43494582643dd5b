-- The parts whose nets are below the number.
use Rattle.cond_expr.specs.Tree.{view}
use Rattle.cond_expr.proofs.JoinedBelow.{IsBelowUpTo}
use Rattle.cond_expr.proofs.bound.+is_below.Given as goal

abbrev pub decreases-is_below : goal.decreases-is_below
decreases-is_below l = goal.size-is_below l

abbrev pub invariant-loop-part : goal.invariant-loop-part
invariant-loop-part l = IsBelowUpTo l.nets (view l.node) l.part-items l.part-index
