-- A stimulus: what is applied to the inputs of a circuit.
use Rattle.std.specs.Prelude.{ℕ, ◌==◌, if◌then◌else◌, List, [], ◌∷◌}
use Rattle.sg_logic.specs.declared.values.Value.{Value}

-- at a time the stimulus sets these nets
pub record Step : Type 0 where
  pub time : ℕ
  pub sets : List (ℕ × Value)

-- steps, and the last time of the run
pub record Stimulus : Type 0 where
  pub steps : List Step
  pub end : ℕ

-- the sets of a time
abbrev pub sets_at : List Step → ℕ → List (ℕ × Value)
sets_at [] t = []
sets_at (s ∷ ss) t = if s.time == t then s.sets else sets_at ss t
