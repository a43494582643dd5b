-- The law is a lemma.
use Rattle.elab_laws.proofs.Inners.{inners-have_nets}
use Rattle.elab_laws.proofs.inners_have_nets.Goals as goal

pub returns : goal.returns
returns c = inners-have_nets
