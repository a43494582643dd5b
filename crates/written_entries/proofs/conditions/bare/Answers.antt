-- Each pair that is taken off encloses what is left.
use Rattle.cond_expr.proofs.Cores.{within_none, within_more, within_is_core, inner_shorter}
use Rattle.annotation_conditions.proofs.SameLaws.{bare_is_core}
use Rattle.cond_expr.proofs.Cores.{one_core}
use Rattle.written_entries.proofs.conditions.bare.Goals as goal

pub loop-inner-init : goal.loop-inner-init
loop-inner-init c = within_none _

pub loop-inner-preserved : goal.loop-inner-preserved
loop-inner-preserved c = within_more _ _ _ c.loop-inner.invariant c.in-Some.ensures.some.0 c.in-Some.ensures.some.1

pub loop-inner-smaller : goal.loop-inner-smaller
loop-inner-smaller c = inner_shorter _ _ c.in-Some.ensures.some.0

pub returns : goal.returns
returns c = one_core _ _ _ (within_is_core _ _ c.loop-inner.invariant c.in_default.ensures.none) (bare_is_core _)
