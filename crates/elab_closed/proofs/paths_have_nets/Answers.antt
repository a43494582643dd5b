-- The law is a lemma.
use Rattle.elab_closed.proofs.Named.{paths-have_nets}
use Rattle.elab_closed.proofs.paths_have_nets.Goals as goal

pub returns : goal.returns
returns c = paths-have_nets
