-- What bounds say of a run: how long after the last set of a stimulus a net may change.
use Rattle.std.specs.Prelude.{◌≡◌, ℕ, ◌+◌, ◌<◌, max, List, [], ◌∷◌, slice_index_or}
use Rattle.sg_logic.specs.declared.values.Value.{Value}
use Rattle.sg_model.specs.Values.{value_at}
use Rattle.sg_model.specs.Machine.{Snapshot}
use Rattle.sg_circuit.specs.Circuit.{Circuit}
use Rattle.sg_stimulus.specs.Stimulus.{Step, Stimulus}
use Rattle.sim_rounds.specs.Simulated.{run_of_circuit}
use Rattle.settle_bound.specs.declared.settling.Settled.{Settled}
use Rattle.settle_bound.specs.declared.settling.Settled.TheVariants.{Bounds, Cycle}

-- the time of a step that sets a net; of one that sets none, 0
abbrev pub time_of_sets : ℕ → List (ℕ × Value) → ℕ
time_of_sets time [] = 0
time_of_sets time (set ∷ sets) = time

-- the time of the last set; where nothing is set, 0
abbrev pub last_set : List Step → ℕ
last_set [] = 0
last_set (s ∷ ss) = max (time_of_sets s.time s.sets) (last_set ss)

-- of some snapshots, the latest first, none later than a time has a net changed from the snapshot before
abbrev pub StaysAfter : ℕ → ℕ → List Snapshot → Type 0
StaysAfter time net [] = Unit {0}
StaysAfter time net (s ∷ []) = Unit {0}
StaysAfter time net (s ∷ t ∷ older) = (time < s.time → value_at s.values net ≡ value_at t.values net) × StaysAfter time net (t ∷ older)

-- whatever the stimulus, and however many rounds a time may have, no net changes later than its bound after the last set
abbrev pub StayAfter : Circuit → List ℕ → Type 0
StayAfter c bounds = (stimulus : Stimulus) (rounds net : ℕ) → StaysAfter (last_set stimulus.steps + slice_index_or bounds net 0) net (run_of_circuit c rounds stimulus).run.snapshots

abbrev pub HoldsOfRuns : Circuit → Settled → Type 0
HoldsOfRuns c (Bounds bounds) = StayAfter c bounds.items
HoldsOfRuns c (Cycle hops) = Unit {0}
