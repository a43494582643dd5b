-- The changes are in order with one more.
use Rattle.fit_changes.proofs.ChangeLaws.{grown}
use Rattle.fit_changes.proofs.changes.Changes.add.Goals as goal

pub invariant_of-self-2 : goal.invariant_of-self-2
invariant_of-self-2 c = grown _ _ _ _ _ _ c.self.invariant c.in-Some.ensures c.in_ok-push.ensures.items
