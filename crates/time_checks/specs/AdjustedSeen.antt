-- What the code's adjusted checks stand for.
use Rattle.std.specs.Prelude.{◌≡◌, ℕ, ◌<◌, ℤ, pos, if◌then◌else◌, Bool, List, [], ◌∷◌, length, map, slice_index_or}
use Rattle.std.specs.Option.{option_map}
use Rattle.sg_circuit.specs.declared.checks.Event.{Event}
use Rattle.sg_circuit.specs.declared.checks.Zero.{Zero}
use Rattle.time_checks.specs.declared.adjusted.AdjustedCheck as code
use Rattle.time_checks.specs.Adjusted.{AdjustedCheck, is_zeroed}

-- an event at another net
abbrev pub event_at : ℕ → Event → Event
event_at net e = record e { net = net }

abbrev pub adjusted_seen : code.AdjustedCheck → AdjustedCheck
adjusted_seen c = record {
  kind = c.timing.now.kind;
  refer = event_at c.refer c.timing.now.refer;
  datum = option_map (event_at c.datum) c.timing.now.datum;
  limits = c.timing.now.limits;
  windows = c.windows;
  threshold = c.timing.now.threshold;
  refer_delay = c.refer_delay;
  datum_delay = c.datum_delay;
}

abbrev pub all_seen : List code.AdjustedCheck → List AdjustedCheck
all_seen cs = map (λ c. adjusted_seen c) cs

-- a limit, where it isn't taken as 0
abbrev pub left : (zeroed : Bool) → ℤ → ℤ
left zeroed limit = if zeroed then pos 0 else limit

-- which limits of a check are taken as 0
abbrev pub zeroed_at : List Zero → ℕ → List Bool
zeroed_at zeroed check = is_zeroed zeroed check 0 ∷ is_zeroed zeroed check 1 ∷ []

-- the marks tell it of each check
abbrev pub AreMarks : List Zero → List (List Bool) → Type 0
AreMarks zeroed marks = (check : ℕ) (d : List Bool) → check < length marks → slice_index_or marks check d ≡ zeroed_at zeroed check
