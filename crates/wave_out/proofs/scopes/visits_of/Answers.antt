use Rattle.wave_out.proofs.WalkLaws.{goes_on, grows_less}
use Rattle.wave_out.proofs.scopes.visits_of.Goals as goal

pub loop-visit-smaller : goal.loop-visit-smaller
loop-visit-smaller c =
    grows_less c.args.circuit.now c.in_ok-children.children c.loop-visit.made.items c.loop-visit.pending.items c.pop.new.self.items c.push_inner.new.pending.items c.in-Some.visit
    c.children_of.ensures.closed c.in_ok-children.ensures.made c.loop-visit.invariant c.in-Some.ensures.items c.in_ok-push_inner.ensures

pub loop-visit-preserved : goal.loop-visit-preserved
loop-visit-preserved c =
    goes_on c.args.circuit.now c.in_ok-children.children c.loop-visit.made.items c.push.new.self.items c.loop-visit.pending.items c.pop.new.self.items c.push_inner.new.pending.items c.in-Some.visit
    c.children_of.ensures.closed c.in_ok-children.ensures.made c.loop-visit.invariant c.in-Some.ensures.items c.in_ok-push.ensures.items c.in_ok-push_inner.ensures
