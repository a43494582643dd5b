-- What the code's trace of a run owes.
use Rattle.std.specs.Prelude.{ℕ, ◌≡◌, ◌<◌, ◌≤◌, ◌^◌, nat_lt, Bool, false, All, List, length, map, slice_get, Option, Some, None}
use Rattle.std.specs.List.{enumerate_from, AllPairs}
use Rattle.sg_logic.specs.declared.values.Value.{Value}
use Rattle.sg_circuit.specs.Pins.{HasPins}
use Rattle.sg_circuit.specs.declared.building.Pin.{Pin}
use Rattle.why_causes.specs.declared.events.Event.{Event}

-- the net of each event, and its number
abbrev pub pins_of : List Event → List Pin
pins_of events = map (λ e. record { net = e.1.net; element = e.0 }) (enumerate_from 0 events)

-- whether there is an event and it comes before a time
abbrev pub comes_before : ℕ → Option Event → Bool
comes_before time None = false
comes_before time (Some e) = nat_lt e.time time

-- whether the event of a number does
abbrev pub holds_before : List Event → ℕ → ℕ → Bool
holds_before events time number = comes_before time (slice_get events number)

-- the index has the numbers of each net's events, by times that don't fall
pub record IsTrace (first : List Value) (events : List Event) (index : List (List ℕ)) : Type 0 where
  pub rows : HasPins (pins_of events) index
  pub row_of_each : length index ≡ length first
  pub few : length events < 2 ^ 32
  pub nets : All (λ e. e.net < length first) events
  pub times : All (λ e. e.time < 2 ^ 60) events
  pub rise : AllPairs (λ d e. d.time ≤ e.time) events
