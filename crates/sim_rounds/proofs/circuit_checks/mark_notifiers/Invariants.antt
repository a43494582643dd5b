use Rattle.std.specs.Prelude.{◌||◌, length, map}
use Rattle.std.proofs.Common.{◌≡◌, ℕ, ◌<◌, ◌≤◌, take}
use Rattle.std.specs.Vec.{vec_capacity}
use Rattle.fan_round.specs.Work.{mark_at, AreMarked}
use Rattle.time_checks.specs.Seen.{violation_seen}
use Rattle.sim_machine.specs.Notifiers.{is_named}
use Rattle.sim_rounds.proofs.circuit_checks.mark_notifiers.Given as goal

abbrev pub invariant-loop-violation : goal.invariant-loop-violation
invariant-loop-violation l = record {
  marked : AreMarked l.marks l.list.items;
  capacity : vec_capacity l.fn.list ≤ vec_capacity l.list;
  marks : (net : ℕ) → net < length l.fn.marks → mark_at l.marks net ≡ (mark_at l.fn.marks net || is_named l.checks (map (λ v. violation_seen v) (take l.violation-index l.violations)) net);
}
