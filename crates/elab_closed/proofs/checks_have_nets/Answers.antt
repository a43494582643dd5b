-- The law is a lemma.
use Rattle.elab_closed.proofs.Named.{checks-have_nets}
use Rattle.elab_closed.proofs.checks_have_nets.Goals as goal

pub returns : goal.returns
returns c = checks-have_nets
