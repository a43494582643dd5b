-- The law is a lemma.
use Rattle.elab_laws.proofs.Stated.{instances-have_places}
use Rattle.elab_laws.proofs.instances_have_places.Goals as goal

pub returns : goal.returns
returns c = instances-have_places
