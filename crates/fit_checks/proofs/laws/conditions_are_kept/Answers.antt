use Rattle.fit_checks.proofs.ConditionLaws.{conditions-kept}
use Rattle.fit_checks.proofs.laws.conditions_are_kept.Goals as goal

pub returns : goal.returns
returns c = conditions-kept
