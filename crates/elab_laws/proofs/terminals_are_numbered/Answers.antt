-- The law is a lemma.
use Rattle.elab_laws.proofs.TerminalNumbers.{terminals-are_numbered}
use Rattle.elab_laws.proofs.terminals_are_numbered.Goals as goal

pub returns : goal.returns
returns c = terminals-are_numbered
