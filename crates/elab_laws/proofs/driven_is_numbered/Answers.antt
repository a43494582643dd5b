-- The law is a lemma.
use Rattle.elab_laws.proofs.DrivenNumbers.{driven-is_numbered}
use Rattle.elab_laws.proofs.driven_is_numbered.Goals as goal

pub returns : goal.returns
returns c = driven-is_numbered
