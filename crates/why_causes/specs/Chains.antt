-- The chain of causes of an event: its cause, the cause of that, and so on.
use Rattle.std.specs.Prelude.{ℕ, ◌≡◌, true, false, List, [], ◌∷◌}
use Rattle.sg_circuit.specs.Circuit.{Circuit}
use Rattle.sg_circuit.specs.FanOut.{has}
use Rattle.why_causes.specs.declared.links.Link.{Link}
use Rattle.why_causes.specs.declared.links.Cause.{Cause}
use Rattle.why_causes.specs.declared.links.Cause.TheVariants.{Nothing, NeverSet, Linked}
use Rattle.why_causes.specs.Waveform.{Waveform}
use Rattle.why_causes.specs.Causes.{cause}

-- a chain of these events goes on with no such cause: it is no event, or one of them
abbrev pub EndsWith : List ℕ → Cause → Type 0
EndsWith events Nothing = Unit {0}
EndsWith events (NeverSet element input) = Unit {0}
EndsWith events (Linked link) = has link.event events ≡ true

-- a chain has these events before the one of a number; from that on it has these links, and its last event has this cause
abbrev pub GoesOn : Circuit → Waveform → List ℕ → ℕ → List Link → Cause → Type 0
GoesOn circuit w before event [] end = (cause circuit w event ≡ end) × EndsWith (event ∷ before) end
GoesOn circuit w before event (link ∷ links) end =
    (cause circuit w event ≡ Linked link) × (has link.event (event ∷ before) ≡ false) × GoesOn circuit w (event ∷ before) link.event links end

-- the chain from the event of a number
abbrev pub IsChain : Circuit → Waveform → ℕ → List Link → Cause → Type 0
IsChain circuit w event links end = GoesOn circuit w [] event links end
