-- A run as its nets show it.
use Rattle.std.specs.Prelude.{ℕ, ◌+◌, ◌==◌, nat_lt, Bool, ◌&&◌, List, filter, Option, Some, None, slice_index_or}
use Rattle.std.specs.List.{enumerate_from, last_or}
use Rattle.sg_logic.specs.declared.values.Value.{Value}
use Rattle.sg_logic.specs.declared.values.Value.TheVariants.{X}
use Rattle.why_causes.specs.declared.events.Event.{Event}

-- the values of nets before time 0, and each change after that. An event is known by its number, its place in the list
pub record Waveform : Type 0 where
  pub first : List Value
  pub events : List Event

-- the events with their numbers
abbrev pub numbered : Waveform → List (ℕ × Event)
numbered w = enumerate_from 0 w.events

-- whether an event is one of a net before a time
abbrev pub is_before : ℕ → ℕ → ℕ × Event → Bool
is_before net time e = (e.1.net == net) && nat_lt e.1.time time

-- a net's events before a time, and the last of them
abbrev pub events_before : Waveform → ℕ → ℕ → List (ℕ × Event)
events_before w net time = filter (is_before net time) (numbered w)

abbrev pub last_before : Waveform → ℕ → ℕ → Option (ℕ × Event)
last_before w net time = last_or None (events_before w net time)

-- the value that a net has from an event on, or from the start
abbrev pub value_from : Waveform → ℕ → Option (ℕ × Event) → Value
value_from w net None = slice_index_or w.first net X
value_from w net (Some e) = e.1.value

-- the value of a net before a time, and at a time
abbrev pub value_before : Waveform → ℕ → ℕ → Value
value_before w net time = value_from w net (last_before w net time)

abbrev pub value_at : Waveform → ℕ → ℕ → Value
value_at w net time = value_before w net (time + 1)

-- an event, by its number; past the end a blank
abbrev pub event_at : Waveform → ℕ → Event
event_at w number = slice_index_or w.events number (record { time = 0; net = 0; value = X })
