-- The delay that was read stands at the end.
use Rattle.sdf_terms.proofs.lists.add_delay.Goals as goal

pub returns : goal.returns
returns c = (c.in_ok-delay.delay, c.in_ok-push.ensures.items, c.in_ok-delay.ensures)
