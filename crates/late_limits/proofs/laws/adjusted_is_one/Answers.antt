use Rattle.late_limits.proofs.OneLaws.{adjusted-is-one}
use Rattle.late_limits.proofs.laws.adjusted_is_one.Goals as goal

pub returns : goal.returns
returns c = adjusted-is-one
