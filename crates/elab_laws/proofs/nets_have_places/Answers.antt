-- The law is a lemma.
use Rattle.elab_laws.proofs.Stated.{nets-have_places}
use Rattle.elab_laws.proofs.nets_have_places.Goals as goal

pub returns : goal.returns
returns c = nets-have_places
