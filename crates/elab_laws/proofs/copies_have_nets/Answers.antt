-- The law is a lemma.
use Rattle.elab_laws.proofs.LateNets.{copies-have_nets}
use Rattle.elab_laws.proofs.copies_have_nets.Goals as goal

pub returns : goal.returns
returns c = copies-have_nets
