-- What is kept of a check's events, their latest times, and what is found from these alone.
use Rattle.std.specs.Prelude.{◌≡◌, ℕ, ℤ, ◌-◌, nat_lt, nat_le, Bool, false, ◌&&◌, if◌then◌else◌, List, Option, Some, None}
use Rattle.std.specs.Option.{option_map}
use Rattle.sg_logic.specs.declared.values.Value.{Value}
use Rattle.sg_circuit.specs.declared.checks.Event.{Event}
use Rattle.time_checks.specs.Adjusted.{AdjustedCheck}
use Rattle.sg_model.specs.Machine.{Violation}
use Rattle.time_checks.specs.declared.events.Events.{Events}
use Rattle.time_checks.specs.declared.recent.Recent.{Recent}
use Rattle.time_checks.specs.declared.judging.Instant.{Instant}
use Rattle.time_checks.specs.declared.violations.Part.{Part}
use Rattle.time_checks.specs.declared.violations.Part.TheVariants.{Setup, Hold, Recovery, Removal, Width, Period, Skew}
use Rattle.time_checks.specs.Parts.{parts_of}
use Rattle.time_checks.specs.Times.{greatest, greatest_of}
use Rattle.time_checks.specs.Windows.{Pair, where_true, since, exceeds, size}
use Rattle.time_checks.specs.Events.{has_event, has_opposite}
use Rattle.time_checks.specs.Violations.{all_from, listed, limit_at, window_at}

-- the greatest of those below a number, if there is one
abbrev pub greatest_below : Option ℕ → List ℕ → Option ℕ
greatest_below None ts = None
greatest_below (Some d) ts = greatest_of (λ t. nat_lt t d) ts

-- the greatest time of a reference event and of a data event, and the greatest time of a data event below that
pub record StandsFor (latest : Recent) (refer_times datum_times : List ℕ) : Type 0 where
  pub refer : latest.refer ≡ greatest refer_times
  pub datum : latest.datum ≡ greatest datum_times
  pub earlier : latest.earlier ≡ greatest_below (greatest datum_times) datum_times

-- whether a data event happens, where there is such a terminal
abbrev pub has_datum : Option Event → List Value → List Value → Bool
has_datum None last now = false
has_datum (Some event) last now = has_event event last now

-- what happens to a check between two snapshots
abbrev pub events_at : AdjustedCheck → List Value → List Value → Events
events_at check last now = record { refer = has_event check.refer last now; datum = has_datum check.datum last now; back = has_opposite check.refer last now }

-- the greatest time of a data event below this one
abbrev pub datum_below : Option ℕ → Option ℕ → ℕ → Option ℕ
datum_below None earlier time = None
datum_below (Some d) earlier time = if nat_lt d time then Some d else earlier

abbrev pub next_time : Bool → ℕ → Option ℕ → Option ℕ
next_time happens time before = if happens then Some time else before

-- the latest times after a snapshot
abbrev pub next_of : ℕ → Events → Recent → Recent
next_of time events latest = record {
  refer = next_time events.refer time latest.refer;
  datum = next_time events.datum time latest.datum;
  earlier = if events.datum then datum_below latest.datum latest.earlier time else latest.earlier;
}

-- a time, where it is less than the limit ago
abbrev pub near : ℕ → ℕ → Option ℕ → Option ℕ
near limit time None = None
near limit time (Some t) = if nat_lt (time - t) limit then Some t else None

abbrev pub setup_kept : ℕ → ℕ → Bool → Option ℕ → Option Pair
setup_kept limit time refer below = where_true refer (option_map (λ t. (time, t)) (near limit time below))

-- now, where the time is now and the limit is above 0
abbrev pub now_kept : ℕ → ℕ → Option ℕ → Option Pair
now_kept limit time None = None
now_kept limit time (Some t) = if nat_le time t && nat_lt 0 limit then Some (time, time) else None

abbrev pub hold_kept : ℕ → ℕ → Bool → Bool → Option ℕ → Option ℕ → Option Pair
hold_kept limit time refer datum refer_time datum_time =
    if datum then option_map (λ t. (t, time)) (near limit time refer_time) else where_true refer (now_kept limit time datum_time)

abbrev pub width_kept : ℕ → ℕ → ℕ → Bool → Option ℕ → Option Pair
width_kept limit threshold time happens refer_time = where_true happens (since (λ t. nat_lt threshold (time - t) && nat_lt (time - t) limit) refer_time time)

abbrev pub skew_kept : ℤ → ℕ → Bool → Option ℕ → Option Pair
skew_kept limit time datum refer_time = where_true datum (since (λ t. exceeds limit (time - t)) refer_time time)

-- the events by which a part is violated, from the latest times before the snapshot and after it
abbrev pub violated_kept : Part → ℤ → ℕ → Instant → Option Pair
violated_kept Setup limit threshold now = setup_kept (size limit) now.time now.events.refer (datum_below now.before.datum now.before.earlier now.time)
violated_kept Hold limit threshold now = hold_kept (size limit) now.time now.events.refer now.events.datum now.after.refer now.after.datum
violated_kept Recovery limit threshold now = hold_kept (size limit) now.time now.events.refer now.events.datum now.after.refer now.after.datum
violated_kept Removal limit threshold now = setup_kept (size limit) now.time now.events.refer (datum_below now.before.datum now.before.earlier now.time)
violated_kept Width limit threshold now = width_kept (size limit) threshold now.time now.events.back now.before.refer
violated_kept Period limit threshold now = width_kept (size limit) 0 now.time now.events.refer now.before.refer
violated_kept Skew limit threshold now = skew_kept limit now.time now.events.datum now.after.refer

-- an instant of a check, by its latest times before
abbrev pub instant_of : ℕ → Events → Recent → Instant
instant_of time events latest = record { time = time; events = events; before = latest; after = next_of time events latest }

-- a check's violations at an instant
abbrev pub found_at : ℕ → AdjustedCheck → Instant → List Violation
found_at number check now = all_from (λ place part. listed number check part (limit_at check place) (violated_kept part (window_at check place) check.threshold now)) 0 (parts_of check.kind)
