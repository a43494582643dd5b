-- All twelve transitions, as the code has them.
use Rattle.std.specs.Prelude.{◌≡◌, ℕ, Bool, true, false, List, Some, Result, Ok, Err}
use Rattle.sg_circuit.specs.Timings.{Timing}
use Rattle.sg_circuit.specs.TimingsSeen.{leg_timing_seen, limit_seen}
use Rattle.sg_delay.specs.declared.limits.Limit.{Limit}
use Rattle.sg_circuit.specs.declared.elements.LegTiming.{LegTiming}

-- the timings of the transitions, or that a value is too large
abbrev pub TellsAll : {E : Type 0} → Bool → List Timing → Result LegTiming E → Type 0
TellsAll large value (Ok t) = (large ≡ false) × (leg_timing_seen t ≡ value)
TellsAll large value (Err e) = large ≡ true

-- the limits of a transition's pulses, or that one is too large
abbrev pub TellsLimit : {E : Type 0} → Bool → ℕ × ℕ → Result Limit E → Type 0
TellsLimit large value (Ok l) = (large ≡ false) × (limit_seen l ≡ Some value)
TellsLimit large value (Err e) = large ≡ true
