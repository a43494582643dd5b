use Rattle.time_checks.proofs.QuietLaws.{violations-again, stands-again}
use Rattle.time_checks.proofs.laws.same_nets_stay.Goals as goal

pub returns : goal.returns
returns c = record { violate_nothing = violations-again; stands = stands-again }
