-- The law is a lemma.
use Rattle.elab_laws.proofs.Stated.{numbers-are_handed_down}
use Rattle.elab_laws.proofs.numbers_are_handed_down.Goals as goal

pub returns : goal.returns
returns c = numbers-are_handed_down
