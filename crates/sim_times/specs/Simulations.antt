-- The state of a simulation, and the runs that it stands for.
use Rattle.std.specs.Prelude.{◌≡◌, ℕ, ◌<◌, ◌≤◌, Bool, All, List, length, map, take}
use Rattle.sg_logic.specs.declared.values.Value.{Value}
use Rattle.sg_model.specs.Machine.{Machine, Snapshot, Violation}
use Rattle.sg_model.specs.Time.{Run}
use Rattle.sg_stimulus.specs.declared.steps.Set.{Set}
use Rattle.sg_stimulus.specs.Seen.{set_seen}
use Rattle.sg_stimulus.specs.Stimulus.{Stimulus}
use Rattle.time_checks.specs.declared.violations.Violation as code_violation
use Rattle.time_checks.specs.declared.latest.Latest.{Latest}
use Rattle.time_checks.specs.Falling.{DontFall}
use Rattle.time_checks.specs.Seen.{violation_seen}
use Rattle.fan_round.specs.declared.nets.Nets.{Nets}
use Rattle.sim_times.specs.declared.told.Told.{Told}
use Rattle.fan_round.specs.declared.work.WorkList.{WorkList}
use Rattle.fan_round.specs.Rounds.{AreHanded}
use Rattle.fan_round.specs.States.{state_seen, IsReadyFor}
use Rattle.sim_times.specs.Told.{IsTold}
use Rattle.sim_times.specs.Checks.{AreFree}
use Rattle.sim_times.specs.Times.{Kept, count_shown}

-- what a simulation keeps of the times that ended
abbrev pub kept_of : Told → (List Snapshot → List Latest) → ℕ → List code_violation.Violation → ℕ → Stimulus → Kept
kept_of told latest ended found changed applied = record { told = told.values.items; latest = latest; violations = take ended (map (λ v. violation_seen v) found); last = changed; stimulus = applied }

-- at a time that no snapshot is later than: the nets, what is pending, what was computed, what the checks have seen, the violations and the count are those of the run
pub record StandsFor (nets : Nets) (lists : List (List (ℕ × Value))) (states : List Value) (seen : List Snapshot → Type 0) (found : List code_violation.Violation) (counted now : ℕ) (r : Run) : Type 0 where
  pub state : r.state ≡ state_seen nets lists states
  pub before : r.before ≡ nets.before.items
  pub checks : seen r.snapshots
  pub times : DontFall now r.snapshots
  pub violations : r.violations ≡ map (λ v. violation_seen v) found
  pub evaluations : counted ≡ count_shown r.evaluations

-- the checks are those of the machine, and toggle nets that no element drives
pub record AreChecksOf (m : Machine) (driven : List ℕ) (nets : ℕ) (found_by : List Snapshot → List Violation) (toggled_by : List Violation → List ℕ) : Type 0 where
  pub violated : found_by ≡ m.violated
  pub notifiers : toggled_by ≡ m.notifiers
  pub free : (found : List Violation) → AreFree driven nets (toggled_by found)

-- the simulation is ready for a round at a time: the first of all, or a later one
pub record IsReadyAt (all : Bool) (now : ℕ) (m : Machine) (net_count : ℕ) (fan : List (List ℕ)) (driven : List ℕ) (nets : Nets) (last_told : Told) (work : WorkList) (lists : List (List (ℕ × Value))) (states : List Value) (found_by : List Snapshot → List Violation) (toggled_by : List Violation → List ℕ) (sets : List Set) (ended : ℕ) (found : List code_violation.Violation) : Type 0 where
  pub round : IsReadyFor all m fan driven nets work lists states now
  pub count : net_count ≡ length nets.values.items
  pub checks : AreChecksOf m driven (length nets.values.items) found_by toggled_by
  pub within : All (λ c. c.net < length nets.values.items) sets
  pub free : AreHanded driven (map (λ c. set_seen c) sets)
  pub told : IsTold last_told nets.values.items
  pub begun : ended ≤ length found

-- and so it is between two times, when all violations are of times that ended
pub record StandsBetween (nets : Nets) (lists : List (List (ℕ × Value))) (states : List Value) (seen : List Snapshot → Type 0) (found : List code_violation.Violation) (counted ended now : ℕ) (r : Run) : Type 0 where
  pub run : StandsFor nets lists states seen found counted now r
  pub whole : length found ≤ ended
