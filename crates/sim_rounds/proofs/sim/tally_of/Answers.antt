use Rattle.std.specs.Prelude.{map}
use Rattle.std.proofs.Common.{◌∙◌, ap}
use Rattle.time_checks.specs.Seen.{violation_seen}
use Rattle.sim_rounds.proofs.SimLaws.{map_taken}
use Rattle.sim_rounds.proofs.sim.tally_of.Goals as goal

pub returns-clause-violations : goal.returns-clause-violations
returns-clause-violations g c = ap (map (λ v. violation_seen v)) c.truncate.ensures.items ∙ map_taken (λ v. violation_seen v) c.args.simulation.ended c.args.simulation.violations.items
