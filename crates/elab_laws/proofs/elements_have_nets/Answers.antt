-- The law is a lemma.
use Rattle.elab_laws.proofs.Members.{elements-have_nets}
use Rattle.elab_laws.proofs.elements_have_nets.Goals as goal

pub returns : goal.returns
returns c = elements-have_nets
