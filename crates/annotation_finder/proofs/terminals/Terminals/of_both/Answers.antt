-- The two terminals.
use Rattle.annotation_finder.proofs.CheckLaws.{same_both}
use Rattle.annotation_finder.proofs.terminals.Terminals.of_both.Goals as goal

pub returns : goal.returns
returns c = same_both _ _ _ _ c.in_ok-named_refer.ensures c.in_ok-named_datum.ensures
