-- The law is a lemma.
use Rattle.elab_laws.proofs.LatesInOrder.{lates-are_in_order}
use Rattle.elab_laws.proofs.lates_are_in_order.Goals as goal

pub returns : goal.returns
returns c = lates-are_in_order
