-- The law is a lemma.
use Rattle.elab_laws.proofs.Stated.{bits-have_nets}
use Rattle.elab_laws.proofs.bits_have_nets.Goals as goal

pub returns : goal.returns
returns c = bits-have_nets
