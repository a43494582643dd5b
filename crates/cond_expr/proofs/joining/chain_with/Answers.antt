use Rattle.std.proofs.Common.{refl}
use Rattle.cond_expr.proofs.BegunLaws.{goes_on, begins}
use Rattle.cond_expr.proofs.joining.chain_with.Goals as goal

pub returns-in-Some : goal.returns-in-Some
returns-in-Some c =
    goes_on _ _ _ _ _ _ c.in-Some.chain c.in_ok-part.part _ c.precedence_of-level.ensures c.requires c.in_ok-part.ensures.same c.in_ok-part.ensures.none c.in-Some.ensures.some c.in-Some.ensures.tighter
    c.extended.ensures.first c.extended.ensures.rest c.extended.ensures.op

pub returns-in_ok-new-in-None : goal.returns-in_ok-new-in-None
returns-in_ok-new-in-None c =
    begins _ _ _ _ _ _ _ c.in_ok-part.part c.precedence_of-level.ensures c.requires c.in_ok-part.ensures.same c.in-None.ensures.none.0 c.in-None.ensures.none.1 c.in_ok-new-in-None.ensures.ok c.new-in-None.ensures.items refl
