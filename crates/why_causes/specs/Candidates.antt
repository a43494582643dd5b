-- Events of an element's inputs, of which one may be the cause of a change of its output.
use Rattle.std.specs.Prelude.{ℕ, nat_le, List, filter, filter_map, Option, option_map}
use Rattle.std.specs.List.{enumerate_from, list_all}
use Rattle.sg_circuit.specs.Circuit.{Element}
use Rattle.why_causes.specs.declared.changes.Candidate.{Candidate}
use Rattle.why_causes.specs.Waveform.{Waveform, last_before}

abbrev pub time_of : Candidate → ℕ
time_of c = c.event.time

-- the inputs of an element: the place of each, and its net
abbrev pub inputs_of : Element → List (ℕ × ℕ)
inputs_of element = enumerate_from 0 element.inputs

-- an input's last event before a time, if it has one
abbrev pub last_of : Waveform → ℕ → ℕ × ℕ → Option Candidate
last_of w time input = option_map (λ e. record { input = input.0; number = e.0; event = e.1 }) (last_before w input.1 time)

-- those of some inputs
abbrev pub last_of_each : Waveform → ℕ → List (ℕ × ℕ) → List Candidate
last_of_each w time inputs = filter_map (last_of w time) inputs

-- of these, those that none is later than
abbrev pub latest : List Candidate → List Candidate
latest cs = filter (λ c. list_all (λ d. nat_le (time_of d) (time_of c)) cs) cs

-- of these, those that none is earlier than
abbrev pub earliest : List Candidate → List Candidate
earliest cs = filter (λ c. list_all (λ d. nat_le (time_of c) (time_of d)) cs) cs
