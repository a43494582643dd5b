-- The law is a lemma.
use Rattle.elab_closed.proofs.Closed.{circuit-is_closed}
use Rattle.elab_closed.proofs.circuit_is_closed.Goals as goal

pub returns : goal.returns
returns c = circuit-is_closed
