-- A part that isn't below the number has a net that isn't, and so has the whole.
use Rattle.cond_expr.proofs.Below.{start_below}
use Rattle.cond_expr.proofs.JoinedBelow.{not_all, below_more, part_of_below}
use Rattle.cond_expr.proofs.bound.+is_below.Goals as goal

pub returns-then-not-is_below : goal.returns-then-not-is_below
returns-then-not-is_below t c = not_all c.is_below-in-Chain.result _ _ c.is_below-in-Chain.ensures c.if-not-is_below.true (start_below _ _ _ _ _ c.in-Chain.is c.deref-in-Chain.ensures)

pub returns-then-not-is_below-2 : goal.returns-then-not-is_below-2
returns-then-not-is_below-2 t c =
    not_all c.is_below-in-loop-part.result _ _ c.is_below-in-loop-part.ensures c.if-not-is_below-2.true
    (part_of_below _ _ _ _ c.loop-part-item.result c.loop-part.invariant c.loop-part-test.true c.loop-part-item.is)

pub loop-part-preserved : goal.loop-part-preserved
loop-part-preserved t c =
    below_more _ _ _ _ c.loop-part-item.result c.loop-part.invariant c.loop-part-test.true c.loop-part-item.is (c.is_below-in-loop-part.ensures.0 c.if-not-is_below-2.false)
