-- The law is a lemma.
use Rattle.time_checks.proofs.LaterLaws.{same-violations, same-latest}
use Rattle.sim_rounds.proofs.MomentsFit.{moments_fit}
use Rattle.rest_laws.proofs.RestLaws.{rest_is_the_rest}
use Rattle.rest_laws.proofs.the_rest_is_that_of_the_whole.Goals as goal

pub returns : goal.returns
returns c = rest_is_the_rest (record { violations = same-violations; latest = same-latest }) moments_fit
