use Rattle.time_checks.proofs.LaterLaws.{same-violations, same-latest}
use Rattle.time_checks.proofs.laws.earlier_events_count_by_their_latest.Goals as goal

pub returns : goal.returns
returns c = record { violations = same-violations; latest = same-latest }
