-- Words of the functions that look for the step of a primitive.
use Rattle.std.specs.Prelude.{ℕ, ◌≡◌, ◌<◌, ◌==◌, Bool, false, if◌then◌else◌, List, filter, length, Option, Some, None, slice_index_or}
use Rattle.std.specs.List.{last_or}
use Rattle.std.specs.Option.{option_and_then}
use Rattle.sg_logic.specs.declared.values.Value.{Value}
use Rattle.udp_rows.specs.Meaning.{Primitive}
use Rattle.why_causes.specs.declared.changes.Candidate.{Candidate}
use Rattle.why_causes.specs.Waveform.{Waveform}
use Rattle.why_causes.specs.Candidates.{time_of, last_of}
use Rattle.why_causes.specs.Causes.{is_step}

-- of each input whether it is a step
pub record AreSteps (udp : Primitive) (old new : List Value) (state : Value) (steps : List Bool) : Type 0 where
  pub many : length steps ≡ length old
  pub each : (input : ℕ) → input < length old → slice_index_or steps input false ≡ is_step udp old new state input

-- a candidate, if it is at a time
abbrev pub kept_at : ℕ → Candidate → Option Candidate
kept_at time c = if time_of c == time then Some c else None

-- an input's last event before a limit, if it is at a time
abbrev pub last_at : Waveform → ℕ → ℕ → ℕ × ℕ → Option Candidate
last_at w limit time input = option_and_then (kept_at time) (last_of w limit input)

-- of candidates the last that is a step, else the last
abbrev pub last_by : List Bool → List Candidate → Option Candidate
last_by steps cs = last_or (last_or None cs) (filter (λ c. slice_index_or steps c.input false) cs)
