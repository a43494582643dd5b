use Rattle.std.proofs.Common.{◌≡◌, List, ◌++◌, drop}
use Rattle.sg_model.specs.Machine.{Snapshot}
use Rattle.sg_model.specs.Round.{each_from}
use Rattle.time_checks.specs.Checking.{Stands}
use Rattle.time_checks.specs.Events.{latest_since}
use Rattle.time_checks.specs.Violations.{earlier_at, latest_events}
use Rattle.sim_rounds.proofs.pausing.latest_of.Given as goal

-- the events of the checks that are left complete the list
abbrev pub invariant-loop-check : goal.invariant-loop-check
invariant-loop-check l =
    (snapshots : List Snapshot) → Stands l.checker snapshots
    → l.latest.items ++ each_from (λ number check. latest_since (earlier_at l.checker.earlier number) check snapshots) l.check (drop l.check l.checker.checks) ≡ latest_events l.checker.earlier l.checker.checks snapshots
