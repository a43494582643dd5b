-- What is told of a net at a time: the chain of causes of its last change.
use Rattle.std.specs.Prelude.{ℕ, ◌+◌, ◌≡◌, List, [], ◌∷◌, map, Option, Some, None}
use Rattle.sg_model.specs.Machine.{Violation}
use Rattle.sg_circuit.specs.Circuit.{Circuit}
use Rattle.why_causes.specs.declared.events.Event.{Event}
use Rattle.why_causes.specs.declared.links.Cause.{Cause}
use Rattle.why_causes.specs.declared.links.Link.{Link}
use Rattle.why_causes.specs.Waveform.{Waveform, last_before}
use Rattle.why_causes.specs.Chains.{IsChain}
use Rattle.why_text.specs.Lines.{chain_lines, unchanged_line}

-- the events of a chain, the latest first
abbrev pub chain_events : ℕ → List Link → List ℕ
chain_events event links = event ∷ map (λ (l : Link). l.event) links

-- the events of the chain of an event, and its lines
pub record IsToldChain (c : Circuit) (w : Waveform) (vs : List Violation) (event : ℕ) (events text : List ℕ) : Type 0 where
  pub links : List Link
  pub end : Cause
  pub chain : IsChain c w event links end
  pub events_are : events ≡ chain_events event links
  pub text_is : text ≡ chain_lines c w vs event links end

-- where there is one
abbrev pub IsToldFrom : Circuit → Waveform → List Violation → ℕ → ℕ → List ℕ → List ℕ → Option (ℕ × Event) → Type 0
IsToldFrom c w vs net time events text None = (events ≡ []) × (text ≡ unchanged_line c w net time)
IsToldFrom c w vs net time events text (Some e) = IsToldChain c w vs e.0 events text

-- of the last event of a net up to a time
abbrev pub IsTold : Circuit → Waveform → List Violation → ℕ → ℕ → List ℕ → List ℕ → Type 0
IsTold c w vs net time events text = IsToldFrom c w vs net time events text (last_before w net (time + 1))
