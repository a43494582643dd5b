-- The stimulus that a dump is: a step for each time at which a bit of an input has a value, times rising; in it each such bit once, nets rising, with its last value at that time.
use Rattle.std.specs.Prelude.{ℕ, ◌==◌, ◌&&◌, not, List, [], ◌∷◌, length, map, filter, filter_map, flat_map, Option, Some, None, option_map, Bool}
use Rattle.std.specs.List.{range_with_len}
use Rattle.sg_logic.specs.declared.values.Value.{Value}
use Rattle.sg_time.specs.Spelling.{number_from}
use Rattle.sg_stimulus.specs.Stimulus.{Step, Stimulus}
use Rattle.sg_circuit.specs.Circuit.{Circuit}
use Rattle.vcd_form.specs.Written.{Item, Section, instant}
use Rattle.vcd_model.specs.Inputs.{own}
use Rattle.vcd_model.specs.Values.{given, scale_of, ticks, Given, Scale}

-- the last of some values
abbrev pub last : List Value → Option Value
last [] = None
last (v ∷ []) = Some v
last (v ∷ w ∷ vs) = last (w ∷ vs)

abbrev pub is_given : ℕ → ℕ → Given → Bool
is_given time net g = (g.time == time) && (g.net == net)

abbrev pub last_given : List Given → ℕ → ℕ → Option (ℕ × Value)
last_given gs time net = option_map (λ v. (net, v)) (last (map (λ g. g.value) (filter (is_given time net) gs)))

-- each number once, where it stands first
abbrev pub once : List ℕ → List ℕ
once [] = []
once (t ∷ ts) = t ∷ filter (λ u. not (u == t)) (once ts)

abbrev pub step_at : Scale → (nets : ℕ) → List Given → ℕ → Step
step_at scale nets gs time = record { time = ticks scale time; sets = filter_map (last_given gs time) (range_with_len 0 nets) }

abbrev pub steps_of : Scale → (nets : ℕ) → List Given → List Step
steps_of scale nets gs = map (step_at scale nets gs) (once (map (λ g. g.time) gs))

-- the end is the last time, or 0
abbrev pub time_of : Item → List ℕ
time_of (instant byte digits) = number_from 0 digits ∷ []
time_of _ = []

abbrev pub last_time : ℕ → List ℕ → ℕ
last_time t [] = t
last_time t (u ∷ us) = last_time u us

abbrev pub wave_stimulus : Circuit → (scope : List ℕ) → List Section → List Item → Stimulus
wave_stimulus circuit scope ss items =
    let scale = scale_of circuit ss in
    record { steps = steps_of scale (length circuit.nets) (given circuit (own scope ss) items); end = ticks scale (last_time 0 (flat_map time_of items)) }
