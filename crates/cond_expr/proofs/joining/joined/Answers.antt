use Rattle.cond_expr.proofs.BegunLaws.{ends_more, ends_now}
use Rattle.cond_expr.proofs.joining.joined.Goals as goal

pub loop-chain-preserved : goal.loop-chain-preserved
loop-chain-preserved c = ends_more _ _ _ _ _ c.in-Some.chain _ _ c.in-Some.ensures.some c.in-Some.ensures.tighter c.in_ok-part.ensures c.loop-chain.invariant

pub returns-clause-same : goal.returns-clause-same
returns-clause-same c = ends_now _ _ _ _ _ _ c.in_default.ensures.none.0 c.loop-chain.invariant
