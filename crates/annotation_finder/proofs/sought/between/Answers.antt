-- The two ports and the condition.
use Rattle.annotation_finder.proofs.SearchLaws.{same_between}
use Rattle.annotation_finder.proofs.sought.between.Goals as goal

pub returns : goal.returns
returns c = same_between _ _ _ _ _ _ _ c.in_ok-named_from.ensures c.in_ok-named_to.ensures c.in_ok-wanted.ensures
