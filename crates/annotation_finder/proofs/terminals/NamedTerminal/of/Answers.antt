-- The port and the words of the condition.
use Rattle.annotation_finder.proofs.CheckLaws.{same_terminal}
use Rattle.annotation_finder.proofs.terminals.NamedTerminal.of.Goals as goal

pub returns : goal.returns
returns c = same_terminal _ _ _ _ _ c.in_ok-port.ensures c.in_ok-condition.ensures
