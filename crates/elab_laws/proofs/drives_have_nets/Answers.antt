-- The law is a lemma.
use Rattle.elab_laws.proofs.Drives.{drives-have_nets}
use Rattle.elab_laws.proofs.drives_have_nets.Goals as goal

pub returns : goal.returns
returns c = drives-have_nets
