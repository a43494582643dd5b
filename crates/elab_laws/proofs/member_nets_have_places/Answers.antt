-- The law is a lemma.
use Rattle.elab_laws.proofs.InOrder.{member-nets_have_places}
use Rattle.elab_laws.proofs.member_nets_have_places.Goals as goal

pub returns : goal.returns
returns c = member-nets_have_places
