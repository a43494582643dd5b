-- Each list of tokens has one core.
use Rattle.annotation_conditions.proofs.SameLaws.{same_at}
use Rattle.annotation_conditions.proofs.fitting.is_same_condition.Goals as goal

pub returns : goal.returns
returns c = same_at _ _ _ _ _ c.requires c.index-conditions-place.is c.same.ensures.yes c.same.ensures.no
