use Rattle.std.proofs.Common.{◌≡◌, ℕ, ◌<◌, length}
use Rattle.time_checks.specs.Checking.{latest_at, recent_of}
use Rattle.time_checks.specs.Violations.{earlier_at}
use Rattle.time_checks.proofs.recent.recalled.Given as goal

abbrev pub invariant-loop-check : goal.invariant-loop-check
invariant-loop-check l = record {
  many : length l.recent.items ≡ l.check;
  each : (check : ℕ) → check < l.check → latest_at l.recent.items check ≡ recent_of (earlier_at l.earlier check);
}
