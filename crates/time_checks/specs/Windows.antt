-- When a part of a timing check is violated (IEEE 1364-2005, 15.2, 15.3), said of all events up to a snapshot.
use Rattle.std.specs.Prelude.{ℕ, ℤ, pos, negsuc, ◌+◌, ◌-◌, nat_lt, nat_le, Bool, true, ◌&&◌, if◌then◌else◌, List, Option, Some, None}
use Rattle.std.specs.Option.{option_map}
use Rattle.time_checks.specs.declared.violations.Part.{Part}
use Rattle.time_checks.specs.declared.violations.Part.TheVariants.{Setup, Hold, Recovery, Removal, Width, Period, Skew}
use Rattle.time_checks.specs.Times.{greatest, greatest_of}

-- what a check sees at a snapshot: its time; whether the reference, the data and the opposite edge of the reference happen
-- at it; the times of all reference and data events up to it, and of the reference events before it
pub record Moment : Type 0 where
  pub time : ℕ
  pub refer : Bool
  pub datum : Bool
  pub back : Bool
  pub refer_times : List ℕ
  pub datum_times : List ℕ
  pub refer_before : List ℕ

-- the times of a reference event and of a data event
abbrev pub Pair : Type 0
Pair = ℕ × ℕ

abbrev pub where_true : Bool → Option Pair → Option Pair
where_true b pair = if b then pair else None

-- a reference event now, and the latest data event before now of those less than the limit away (15.2.1)
abbrev pub setup : ℕ → Moment → Option Pair
setup limit now =
    where_true now.refer (option_map (λ t. (now.time, t)) (greatest_of (λ t. nat_lt t now.time && nat_lt now.time (t + limit)) now.datum_times))

-- a data event now, and the latest reference event up to now of those less than the limit away (15.2.2)
abbrev pub hold_of_datum : ℕ → Moment → Option Pair
hold_of_datum limit now =
    where_true now.datum (option_map (λ t. (t, now.time)) (greatest_of (λ t. nat_le t now.time && nat_lt now.time (t + limit)) now.refer_times))

-- a reference event now, and a data event that isn't before it, less than the limit away
abbrev pub hold_of_refer : ℕ → Moment → Option Pair
hold_of_refer limit now =
    where_true now.refer (option_map (λ t. (now.time, t)) (greatest_of (λ t. nat_le now.time t && nat_lt t (now.time + limit)) now.datum_times))

-- the pair with the greater reference time
abbrev pub later_of : Option Pair → Option Pair → Option Pair
later_of None q = q
later_of (Some p) None = Some p
later_of (Some p) (Some q) = if nat_le q.0 p.0 then Some p else Some q

-- of the pairs whose later event is now, that with the greatest reference time (15.2.2, 15.2.3)
abbrev pub hold : ℕ → Moment → Option Pair
hold limit now = later_of (hold_of_refer limit now) (hold_of_datum limit now)

-- the latest reference event, where its time passes, and now
abbrev pub since : (ℕ → Bool) → Option ℕ → ℕ → Option Pair
since passes None now = None
since passes (Some t) now = if passes t then Some (t, now) else None

-- an opposite edge now, less than the limit but more than the threshold after the latest reference event before (15.3.4)
abbrev pub width : ℕ → ℕ → Moment → Option Pair
width limit threshold now =
    where_true now.back (since (λ t. nat_lt threshold (now.time - t) && nat_lt (now.time - t) limit) (greatest now.refer_before) now.time)

-- a reference event now, less than the limit after the latest one before, at a later time than that (15.3.5)
abbrev pub period : ℕ → Moment → Option Pair
period limit now =
    where_true now.refer (since (λ t. nat_lt 0 (now.time - t) && nat_lt (now.time - t) limit) (greatest now.refer_before) now.time)

-- whether a distance is more than a limit; each is more than one below 0
abbrev pub exceeds : ℤ → ℕ → Bool
exceeds (pos n) distance = nat_lt n distance
exceeds (negsuc n) distance = true

-- a data event now, more than the limit after the latest reference event up to now (15.3.1)
abbrev pub skew : ℤ → Moment → Option Pair
skew limit now =
    where_true now.datum (since (λ t. exceeds limit (now.time - t)) (greatest now.refer_times) now.time)

-- a limit's size; below 0 it is 0
abbrev pub size : ℤ → ℕ
size (pos n) = n
size (negsuc n) = 0

-- the events by which a part is violated: removal has the window of setup, for a control that comes after a clock, and recovery
-- that of hold, for one that comes before it (15.2.4, 15.2.5)
abbrev pub violated : Part → ℤ → ℕ → Moment → Option Pair
violated Setup limit threshold now = setup (size limit) now
violated Hold limit threshold now = hold (size limit) now
violated Recovery limit threshold now = hold (size limit) now
violated Removal limit threshold now = setup (size limit) now
violated Width limit threshold now = width (size limit) threshold now
violated Period limit threshold now = period (size limit) now
violated Skew limit threshold now = skew limit now
