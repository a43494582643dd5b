-- What the code of a pause says.
use Rattle.std.specs.Prelude.{◌≡◌, ℕ, ◌+◌, List, Result, Ok, Err, length, map}
use Rattle.std.specs.declared.option.Option.{Option}
use Rattle.std.specs.declared.option.Option.TheVariants.{Some, None}
use Rattle.sg_logic.specs.declared.values.Value.{Value}
use Rattle.sg_circuit.specs.Circuit.{Circuit}
use Rattle.sg_model.specs.Machine.{Snapshot, Violation}
use Rattle.sg_model.specs.Time.{Run}
use Rattle.fan_round.specs.declared.nets.Nets.{Nets}
use Rattle.fan_round.specs.declared.stamps.Stamp as code_stamp
use Rattle.fan_round.specs.declared.work.WorkList.{WorkList}
use Rattle.time_checks.specs.declared.latest.Latest.{Latest}
use Rattle.time_checks.specs.declared.violations.Violation as code_violation
use Rattle.time_checks.specs.Adjusted.{adjusted_checks}
use Rattle.time_checks.specs.Checking.{Kept}
use Rattle.time_checks.specs.Seen.{violation_seen}
use Rattle.time_checks.specs.Violations.{latest_events}
use Rattle.sim_times.specs.Simulations.{StandsBetween}
use Rattle.sim_times.specs.Times.{count_shown}
use Rattle.sim_times.specs.declared.runs.SimEnd.{SimEnd}
use Rattle.sim_times.specs.declared.runs.SimEnd.TheVariants.{NoMemory}
use Rattle.sim_rounds.specs.declared.moments.LastChange as code_change
use Rattle.sim_rounds.specs.declared.sim.Tally as code_tally
use Rattle.sim_rounds.specs.declared.stops.Until.{Until}
use Rattle.sim_rounds.specs.declared.stops.Until.TheVariants.{Ended, Paused}
use Rattle.sim_rounds.specs.CircuitChecks.{HaveSeen}
use Rattle.sim_rounds.specs.Moments.{Moment, Pending, moment_of}
use Rattle.sim_rounds.specs.MomentsSeen.{moment_seen}

-- a stamp, as a moment has it
abbrev pub change_kept : Option code_stamp.Stamp → Option code_change.LastChange
change_kept None = None
change_kept (Some s) = Some (record { time = s.time; before = s.before; after = s.after })

-- a transition that a driver has pending
abbrev pub pending_by : ℕ → ℕ × Value → Pending
pending_by driver p = record { driver = driver; time = p.0; value = p.1 }

-- a simulation has a list and a state for each element of a circuit, and keeps events of each check
pub record HasEach (circuit : Circuit) (lists : List (List (ℕ × Value))) (states : List Value) (checks : Kept) : Type 0 where
  pub lists_are : length lists ≡ length circuit.elements
  pub states_are : length states ≡ length circuit.elements
  pub checks_are : length checks.checks ≡ length circuit.checks

-- it is what each run has come to that the parts of a simulation stand for after a time, where this was known of events before
pub record HasComeTo (circuit : Circuit) (nets : Nets) (lists : List (List (ℕ × Value))) (states : List Value) (checks : Kept) (touched : WorkList) (found : List code_violation.Violation) (counted ended last time evaluated : ℕ) (m : Moment) : Type 0 where
  pub each : (earlier : List Latest) (r : Run) → ((ss : List Snapshot) → latest_events checks.earlier checks.checks ss ≡ latest_events earlier (adjusted_checks circuit) ss)
      → StandsBetween nets lists states (HaveSeen checks touched nets.values.items) found counted ended (time + 1) r → m ≡ moment_of circuit earlier time r last (count_shown (evaluated + r.evaluations))

-- what was found in the times that ended
pub record IsTallyOf (found : List Violation) (counted changed : ℕ) (tally : code_tally.Tally) : Type 0 where
  pub violations : map (λ v. violation_seen v) tally.violations.items ≡ found
  pub evaluations : tally.evaluations ≡ counted
  pub last : tally.last ≡ changed

-- where the times up to a stop were made there was no memory for the moment; or else they weren't made, for the same cause
abbrev pub IsCutShort : Result (Unit {0}) SimEnd → Result (Unit {0}) SimEnd → Type 0
IsCutShort (Ok u) end = end ≡ Err NoMemory
IsCutShort (Err e) end = end ≡ Err e

-- a pause after the times up to a stop were made; the moment is one of these
abbrev pub IsPause : Result (Unit {0}) SimEnd → (found : List Violation) → (counted changed : ℕ) → (Moment → Type 0) → Until → Type 0
IsPause made found counted changed come (Paused moment tally) = (made ≡ Ok tt) × come (moment_seen moment) × IsTallyOf found counted changed tally
IsPause made found counted changed come (Ended finished) = IsCutShort made finished.end × IsTallyOf found counted changed finished.tally
