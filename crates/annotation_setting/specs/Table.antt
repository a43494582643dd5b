-- A table of new timings, where there are some.
use Rattle.std.specs.Prelude.{List, [], ◌∷◌, Option, Some, None}
use Rattle.std.specs.Global.{Box}
use Rattle.sg_circuit.specs.Timings.{Timing}
use Rattle.sg_circuit.specs.TimingsSeen.{leg_timing_seen}
use Rattle.sg_circuit.specs.declared.elements.LegTiming.{LegTiming}
use Rattle.annotation_model.specs.Spots.{Spot, timings_of}

-- the new timings of a leg or a path, or those that it has
abbrev pub timings_or : Spot → Option (Box LegTiming) → List Timing
timings_or spot None = timings_of spot
timings_or spot (Some new) = leg_timing_seen new.value

abbrev pub timings_seen : List Spot → List (Option (Box LegTiming)) → List (List Timing)
timings_seen (s ∷ ss) (t ∷ ts) = timings_or s t ∷ timings_seen ss ts
timings_seen _ _ = []
