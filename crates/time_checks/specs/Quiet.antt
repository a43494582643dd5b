-- Checks none of whose terminals changes: nothing is violated and nothing is to be kept.
use Rattle.std.specs.Prelude.{◌≡◌, ℕ, List, [], ◌∷◌, Option, Some, None}
use Rattle.sg_logic.specs.declared.values.Value.{Value}
use Rattle.sg_circuit.specs.declared.checks.Event.{Event}
use Rattle.time_checks.specs.Adjusted.{AdjustedCheck}
use Rattle.sg_model.specs.Machine.{Snapshot}
use Rattle.sg_model.specs.Values.{value_at}
use Rattle.time_checks.specs.Checking.{Kept, Stands}
use Rattle.time_checks.specs.Events.{event_times, datum_times, moment}
use Rattle.time_checks.specs.declared.latest.Latest.{Latest}
use Rattle.time_checks.specs.Violations.{violations_at, violations_since}

-- a terminal's net stays, where there is such a terminal
abbrev pub StaysSame : Option Event → List Value → List Value → Type 0
StaysSame None last now = Unit {0}
StaysSame (Some event) last now = value_at last event.net ≡ value_at now event.net

-- neither terminal's net changes
pub record IsUntouched (check : AdjustedCheck) (last now : List Value) : Type 0 where
  pub refer : value_at last check.refer.net ≡ value_at now check.refer.net
  pub datum : StaysSame check.datum last now

-- an untouched check violates nothing, and has the events that it had
pub record UntouchedStay : Type 0 where
  pub violate_nothing : (number : ℕ) (check : AdjustedCheck) (now last : Snapshot) (older : List Snapshot) → IsUntouched check last.values now.values → violations_at number check (moment check now (last ∷ older)) ≡ []
  pub refer_times : (check : AdjustedCheck) (now last : Snapshot) (older : List Snapshot) → IsUntouched check last.values now.values → event_times check.refer (now ∷ last ∷ older) ≡ event_times check.refer (last ∷ older)
  pub datum_times : (check : AdjustedCheck) (now last : Snapshot) (older : List Snapshot) → IsUntouched check last.values now.values → datum_times check.datum (now ∷ last ∷ older) ≡ datum_times check.datum (last ∷ older)

-- the nets of the snapshot before once more, at some time
abbrev pub again : ℕ → Snapshot → Snapshot
again time last = record { time = time; values = last.values }

-- such a snapshot has no violation, and leaves what a checker stands for
pub record SameNetsStay : Type 0 where
  pub violate_nothing : (earlier : List Latest) (checks : List AdjustedCheck) (time : ℕ) (last : Snapshot) (older : List Snapshot) → violations_since earlier checks (again time last ∷ last ∷ older) ≡ []
  pub stands : (kept : Kept) (time : ℕ) (last : Snapshot) (older : List Snapshot) → Stands kept (last ∷ older) → Stands kept (again time last ∷ last ∷ older)
