-- One transition, as the code has it.
use Rattle.std.specs.Prelude.{◌≡◌, Bool, true, false, Result, Ok, Err}
use Rattle.sg_circuit.specs.Timings.{Timing}
use Rattle.sg_circuit.specs.TimingsSeen.{limit_seen}
use Rattle.annotation_values.specs.declared.changes.Transition.{Transition}

abbrev pub transition_seen : Transition → Timing
transition_seen t = record { delay = t.delay; limits = limit_seen t.limit }

-- a transition's timing, or that it is too large
abbrev pub TellsTiming : {E : Type 0} → Bool → Timing → Result Transition E → Type 0
TellsTiming large value (Ok t) = (large ≡ false) × (transition_seen t ≡ value)
TellsTiming large value (Err e) = large ≡ true
