-- What an entry makes of the delays and limits of a place that it is for (IEEE 1497-2001, delay and timing check entries; IEEE 1364-2005,
-- 16.3, 16.5, 16.6).
use Rattle.std.specs.Prelude.{ℕ, ◌*◌, ◌^◌, ◌==◌, ◌||◌, not, nat_lt, nat_le, max, ℤ, pos, ◌+ℤ◌, ◌-ℤ◌, unsigned_abs, Bool, true, false}
use Rattle.std.specs.Prelude.{List, [], ◌∷◌, map, length, Option, Some, None, is_some, if◌then◌else◌}
use Rattle.std.specs.List.{list_any}
use Rattle.sg_time.specs.Spelling.{Number}
use Rattle.sg_time.specs.Ticks.{above, tick_count, nearest_product, with_sign}
use Rattle.sg_delay.specs.declared.corners.Corner.{Corner}
use Rattle.sg_delay.specs.declared.corners.Corner.TheVariants.{Min, Typ, Max}
use Rattle.sg_delay.specs.Expansion.{Six, six}
use Rattle.sg_circuit.specs.Timings.{Timing}
use Rattle.sdf_tree.specs.Meant.{Triple, LimitPair, DelayValue, EntryKind, io_path, device, port_delay, interconnect, path_pulse, a_check, skipped_entry, Entry}

-- how a value becomes ticks: the corner that is taken, the file's unit, the precision of the scope, the tick; powers of ten of a second
pub record Grid : Type 0 where
  pub corner : Corner
  pub unit : ℤ
  pub precision : ℤ
  pub tick : ℤ

-- ---- values (IEEE 1497-2001, real numbers and triples; the timescale)

abbrev pub part_of : Corner → Triple → Option Number
part_of Min values = values.min
part_of Typ values = values.typ
part_of Max values = values.max

-- so many ticks a number is, whatever its size
abbrev pub ticks_of : Grid → Number → ℤ
ticks_of g n = with_sign n.negative (tick_count n g.unit g.precision g.tick)

abbrev pub ticks_if : Grid → Option Number → Option ℤ
ticks_if g None = None
ticks_if g (Some n) = Some (ticks_of g n)

abbrev pub chosen : Grid → Triple → Option ℤ
chosen g t = ticks_if g (part_of g.corner t)

-- a size of 2^60 ticks or more
abbrev pub is_large : ℤ → Bool
is_large n = not (nat_lt (unsigned_abs n) (2 ^ 60))

-- two limits, where both have a value; else neither is taken
abbrev pub both : Option ℤ → Option ℤ → Option (ℤ × ℤ)
both (Some reject) (Some error) = Some (reject, error)
both None error = None
both (Some reject) None = None

abbrev pub are_large : Option (ℤ × ℤ) → Bool
are_large None = false
are_large (Some l) = is_large l.0 || is_large l.1

-- what lies below 0 becomes 0; in files that are read an error limit isn't below its reject limit
abbrev pub limits_from : ℤ × ℤ → ℕ × ℕ
limits_from l = (above l.0, max (above l.0) (above l.1))

-- ---- lists of delays (IEEE 1497-2001, delay values; IEEE 1364-2005, 16.6)

-- a delay, and limits where both have a value
pub record Change : Type 0 where
  pub delay : ℤ
  pub limits : Option (ℤ × ℤ)

abbrev pub chosen_limits : Grid → Option LimitPair → Option (ℤ × ℤ)
chosen_limits g None = None
chosen_limits g (Some l) = both (chosen g l.reject) (chosen g l.error)

abbrev pub change_with : Option ℤ → Option (ℤ × ℤ) → Option Change
change_with None limits = None
change_with (Some delay) limits = Some (record { delay = delay; limits = limits })

-- where the delay has no value for the corner, the limits are passed over
abbrev pub change_of : Grid → DelayValue → Option Change
change_of g v = change_with (chosen g v.delay) (chosen_limits g v.limits)

-- a delay replaces the one before it, or is added to it
abbrev pub sum_of : (increment : Bool) → ℤ → ℕ → ℤ
sum_of false delay old = delay
sum_of true delay old = pos old +ℤ delay

-- limits always replace; those that a text gave stay where none are given
abbrev pub new_limits : Option (ℤ × ℤ) → Option (ℕ × ℕ) → Option (ℕ × ℕ)
new_limits None old = old
new_limits (Some l) old = Some (limits_from l)

abbrev pub changed : (increment : Bool) → Option Change → Timing → Timing
changed increment None t = t
changed increment (Some c) t = record { delay = above (sum_of increment c.delay t.delay); limits = new_limits c.limits t.limits }

abbrev pub is_change_large : (increment : Bool) → Option Change → Timing → Bool
is_change_large increment None t = false
is_change_large increment (Some c) t = is_large c.delay || (are_large c.limits || is_large (sum_of increment c.delay t.delay))

-- the transitions one after another, as far as changes are given
abbrev pub changed_each : (increment : Bool) → List (Option Change) → List Timing → List Timing
changed_each increment [] ts = ts
changed_each increment (c ∷ cs) [] = []
changed_each increment (c ∷ cs) (t ∷ ts) = changed increment c t ∷ changed_each increment cs ts

abbrev pub is_each_large : (increment : Bool) → List (Option Change) → List Timing → Bool
is_each_large increment [] ts = false
is_each_large increment (c ∷ cs) [] = false
is_each_large increment (c ∷ cs) (t ∷ ts) = is_change_large increment c t || is_each_large increment cs ts

-- the timing with the lesser delay, and with the greater; of equal ones the first
abbrev pub lesser : Timing → Timing → Timing
lesser a b = if nat_le a.delay b.delay then a else b

abbrev pub greater : Timing → Timing → Timing
greater a b = if nat_le b.delay a.delay then a else b

-- The transitions to and from x anew, from those between 0, 1 and z: 0x, x1, 1x, x0, xz, zx. Each takes the limits with the delay.
abbrev pub with_x : List Timing → List Timing
with_x (t01 ∷ t10 ∷ t0z ∷ tz1 ∷ t1z ∷ tz0 ∷ rest) =
    t01 ∷ t10 ∷ t0z ∷ tz1 ∷ t1z ∷ tz0 ∷ lesser t0z t01 ∷ greater tz1 t01 ∷ lesser t1z t10 ∷ greater tz0 t10 ∷ greater t1z t0z ∷ lesser tz1 tz0 ∷ []
with_x ts = ts

abbrev pub listed : {A : Type 0} → Option (Six A) → List A
listed None = []
listed (Some s) = s.t01 ∷ s.t10 ∷ s.t0z ∷ s.tz1 ∷ s.t1z ∷ s.tz0 ∷ []

-- what a list gives to the transitions: twelve to all, a shorter one to those between 0, 1 and z
abbrev pub spread : List (Option Change) → List (Option Change)
spread cs = if length cs == 12 then cs else listed (six cs)

-- whether the transitions to and from x are made anew: for a list shorter than twelve that gives something
abbrev pub makes_x : List (Option Change) → Bool
makes_x cs = list_any (λ c. is_some c) (listed (six cs))

abbrev pub with_changes : (increment : Bool) → List (Option Change) → List Timing → List Timing
with_changes increment cs ts = if makes_x cs then with_x (changed_each increment (spread cs) ts) else changed_each increment (spread cs) ts

-- ---- limits of pulses (IEEE 1497-2001, PATHPULSE and PATHPULSEPERCENT; IEEE 1364-2005, 16.5)

abbrev pub limited : ℕ × ℕ → Timing → Timing
limited l t = record { delay = t.delay; limits = Some l }

-- the same for all transitions
abbrev pub with_pulses : Option (ℤ × ℤ) → List Timing → List Timing
with_pulses None ts = ts
with_pulses (Some l) ts = map (limited (limits_from l)) ts

-- so many percent of a delay, 0 where that is negative
abbrev pub percent : Number → ℕ → ℕ
percent n delay = if n.negative then 0 else nearest_product (n.digits * delay) (n.exponent -ℤ pos 2)

abbrev pub percents : Number × Number → ℕ → ℕ × ℕ
percents l delay = (percent l.0 delay, max (percent l.0 delay) (percent l.1 delay))

abbrev pub both_numbers : Option Number → Option Number → Option (Number × Number)
both_numbers (Some reject) (Some error) = Some (reject, error)
both_numbers None error = None
both_numbers (Some reject) None = None

-- of each transition's own delay, as it stands
abbrev pub with_percents : Option (Number × Number) → List Timing → List Timing
with_percents None ts = ts
with_percents (Some l) ts = map (λ (t : Timing). limited (percents l t.delay) t) ts

abbrev pub is_percent_large : Option (Number × Number) → List Timing → Bool
is_percent_large None ts = false
is_percent_large (Some l) ts = list_any (λ (t : Timing). not (nat_lt (percents l t.delay).1 (2 ^ 60))) ts

-- a missing error limit is the reject limit
abbrev pub error_or : Triple → Option Triple → Triple
error_or reject None = reject
error_or reject (Some error) = error

abbrev pub pulse_limits : Grid → Triple → Option Triple → Option (ℤ × ℤ)
pulse_limits g reject error = both (chosen g reject) (chosen g (error_or reject error))

abbrev pub pulse_numbers : Grid → Triple → Option Triple → Option (Number × Number)
pulse_numbers g reject error = both_numbers (part_of g.corner reject) (part_of g.corner (error_or reject error))

-- ---- entries

abbrev pub changes_of : Grid → List DelayValue → List (Option Change)
changes_of g ds = map (change_of g) ds

abbrev pub applied_kind : Grid → (increment : Bool) → EntryKind → List Timing → List Timing
applied_kind g increment (io_path condition from to ds) ts = with_changes increment (changes_of g ds) ts
applied_kind g increment (device output ds) ts = with_changes increment (changes_of g ds) ts
applied_kind g increment (port_delay port ds) ts = with_changes increment (changes_of g ds) ts
applied_kind g increment (interconnect from to ds) ts = with_changes increment (changes_of g ds) ts
applied_kind g increment (path_pulse false ports reject error) ts = with_pulses (pulse_limits g reject error) ts
applied_kind g increment (path_pulse true ports reject error) ts = with_percents (pulse_numbers g reject error) ts
applied_kind g increment (a_check check) ts = ts
applied_kind g increment (skipped_entry skipped) ts = ts

-- the delays and limits of the twelve transitions after an entry
abbrev pub applied : Grid → Entry → List Timing → List Timing
applied g e ts = applied_kind g e.increment e.kind ts

abbrev pub is_kind_large : Grid → (increment : Bool) → EntryKind → List Timing → Bool
is_kind_large g increment (io_path condition from to ds) ts = is_each_large increment (spread (changes_of g ds)) ts
is_kind_large g increment (device output ds) ts = is_each_large increment (spread (changes_of g ds)) ts
is_kind_large g increment (port_delay port ds) ts = is_each_large increment (spread (changes_of g ds)) ts
is_kind_large g increment (interconnect from to ds) ts = is_each_large increment (spread (changes_of g ds)) ts
is_kind_large g increment (path_pulse false ports reject error) ts = are_large (pulse_limits g reject error)
is_kind_large g increment (path_pulse true ports reject error) ts = is_percent_large (pulse_numbers g reject error) ts
is_kind_large g increment (a_check check) ts = false
is_kind_large g increment (skipped_entry skipped) ts = false

-- whether a value of an entry, a sum that it makes or a limit that a percentage gives is too large
abbrev pub is_too_large : Grid → Entry → List Timing → Bool
is_too_large g e ts = is_kind_large g e.increment e.kind ts

-- ---- limits of timing checks (IEEE 1497-2001, timing check entries; IEEE 1364-2005, 16.2.2)

-- What an entry may make of a check's limits: whether they may lie below 0, as those of setuphold and recrem may; and the weight of such a limit, which is one more than its scope has
-- signals with delayed copies (IEEE 1364-2005, 15.8). Any other weighs once.
pub record Bounds : Type 0 where
  pub signed : Bool
  pub weight : ℕ

abbrev pub limit_or : (signed : Bool) → Option ℤ → ℤ → ℤ
limit_or signed None old = old
limit_or true (Some limit) old = limit
limit_or false (Some limit) old = pos (above limit)

abbrev pub chosen_if : Grid → Option Triple → Option ℤ
chosen_if g None = None
chosen_if g (Some t) = chosen g t

-- a limit that is given replaces the one before it; one that may not lie below 0 becomes 0 there
abbrev pub with_limits : Bounds → Grid → Option Triple × Option Triple → List ℤ → List ℤ
with_limits b g l (first ∷ second ∷ rest) = limit_or b.signed (chosen_if g l.0) first ∷ limit_or b.signed (chosen_if g l.1) second ∷ []
with_limits b g l limits = limits

-- a limit whose size, as often as it weighs, is 2^60 ticks or more
abbrev pub is_limit_large : (weight : ℕ) → Option ℤ → Bool
is_limit_large weight None = false
is_limit_large weight (Some limit) = not (nat_lt (unsigned_abs limit * weight) (2 ^ 60))

abbrev pub are_limits_large : Bounds → Grid → Option Triple × Option Triple → Bool
are_limits_large b g l = is_limit_large b.weight (chosen_if g l.0) || is_limit_large b.weight (chosen_if g l.1)
