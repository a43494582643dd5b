-- The one terminal.
use Rattle.annotation_finder.proofs.CheckLaws.{same_one}
use Rattle.annotation_finder.proofs.terminals.Terminals.of_one.Goals as goal

pub returns : goal.returns
returns c = same_one _ _ c.in_ok-named_refer.ensures
