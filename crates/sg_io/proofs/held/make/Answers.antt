-- A file of a new name comes at the end.
use Rattle.sg_io.proofs.HeldLemmas.{HasAfter-push, distinct-push}
use Rattle.sg_io.proofs.held.make.Goals as goal

pub returns-clause-ok : goal.returns-clause-ok
returns-clause-ok c = rw c.in_ok-push.ensures.items (HasAfter-push _ _ _ c.in_ok-name.ensures.ok c.requires)

pub returns-clause-distinct : goal.returns-clause-distinct
returns-clause-distinct c = λ distinct. rw c.in_ok-push.ensures.items (distinct-push _ _ _ c.in_ok-name.ensures.ok c.requires distinct)
