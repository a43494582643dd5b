use Rattle.cond_expr.proofs.BegunLaws.{waits_now}
use Rattle.cond_expr.proofs.joining.add_operator.Goals as goal

pub returns : goal.returns
returns c = waits_now _ _ _ _ _ _ c.in_ok-push.ensures.items c.in_ok-chain.ensures
