use Rattle.std.specs.Prelude.{None}
use Rattle.time_checks.specs.Events.{no_events}
use Rattle.time_checks.proofs.QuietLaws.{untouched-none, untouched-refer, untouched-datum}
use Rattle.time_checks.proofs.laws.untouched_checks_stay.Goals as goal

pub returns : goal.returns
returns c = record { violate_nothing = untouched-none no_events; refer_times = untouched-refer None; datum_times = untouched-datum None }
