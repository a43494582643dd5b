-- When a stimulus can be applied to a circuit.
use Rattle.std.specs.Prelude.{◌≡◌, ◌≢◌, ℕ, ◌<◌, ◌≤◌, ◌^◌, All, List, [], ◌∷◌, length}
use Rattle.sg_logic.specs.declared.values.Value.{Value}
use Rattle.sg_circuit.specs.declared.nets.Driver.TheVariants as driver
use Rattle.sg_circuit.specs.Circuit.{Circuit, net_at}
use Rattle.sg_stimulus.specs.Stimulus.{Step, Stimulus}

-- the time is below that of the first step, if there is one
abbrev pub IsBefore : ℕ → List Step → Type 0
IsBefore t [] = Unit {0}
IsBefore t (s ∷ ss) = t < s.time

-- times rise
abbrev pub StepsRise : List Step → Type 0
StepsRise [] = Unit {0}
StepsRise (s ∷ ss) = IsBefore s.time ss × StepsRise ss

-- no set is of this net
abbrev pub SetsNot : ℕ → List (ℕ × Value) → Type 0
SetsNot net sets = All (λ c. c.0 ≢ net) sets

-- each net is set once
abbrev pub SetsOnce : List (ℕ × Value) → Type 0
SetsOnce [] = Unit {0}
SetsOnce (c ∷ cs) = SetsNot c.0 cs × SetsOnce cs

-- a net that the stimulus drives
abbrev pub IsInput : Circuit → ℕ → Type 0
IsInput circuit net = (net < length circuit.nets) × ((net_at circuit net).driver ≡ driver.Stimulus)

-- times rise and aren't above the end, and a step sets each net once, and only nets that the stimulus drives
pub record IsApplied (circuit : Circuit) (stimulus : Stimulus) : Type 0 where
  pub rising : StepsRise stimulus.steps
  pub within : All (λ s. s.time ≤ stimulus.end) stimulus.steps
  pub fits : stimulus.end < 2 ^ 60
  pub once : All (λ s. SetsOnce s.sets) stimulus.steps
  pub inputs : All (λ s. All (λ c. IsInput circuit c.0) s.sets) stimulus.steps
