-- The two ports.
use Rattle.annotation_finder.proofs.SearchLaws.{same_connecting}
use Rattle.annotation_finder.proofs.sought.connecting.Goals as goal

pub returns : goal.returns
returns c = same_connecting _ _ _ _ c.in_ok-named_from.ensures c.in_ok-named_to.ensures
