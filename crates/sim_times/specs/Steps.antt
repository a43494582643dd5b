-- The steps of a stimulus on either side of a time, and when a simulation can apply it.
use Rattle.std.specs.Prelude.{◌≡◌, ◌≢◌, ℕ, ◌<◌, ◌≤◌, All, List, [], length, slice_index_or}
use Rattle.sg_stimulus.specs.declared.steps.StimStep.{StimStep}
use Rattle.sg_stimulus.specs.Stimulus.{Stimulus, sets_at}
use Rattle.sg_stimulus.specs.Applied.{StepsRise}
use Rattle.fan_round.specs.Rounds.{AreHanded}

-- the first n steps come before the time, and the others don't
pub record Splits (steps : List StimStep) (time n : ℕ) : Type 0 where
  pub within : n ≤ length steps
  pub before : (i : ℕ) (blank : StimStep) → i < n → (slice_index_or steps i blank).time < time
  pub others : (i : ℕ) (blank : StimStep) → n ≤ i → i < length steps → time ≤ (slice_index_or steps i blank).time

-- no step sets anything
abbrev pub SetNothing : List StimStep → Type 0
SetNothing steps = (i : ℕ) (blank : StimStep) → i < length steps → (slice_index_or steps i blank).sets.items ≡ []

-- the first step that sets anything has this time
pub record SetsFirst (steps : List StimStep) (time : ℕ) : Type 0 where
  pub place : ℕ
  pub step : StimStep
  pub within : place < length steps
  pub is : slice_index_or steps place step ≡ step
  pub time_is : step.time ≡ time
  pub sets : step.sets.items ≢ []
  pub before : (i : ℕ) (blank : StimStep) → i < place → (slice_index_or steps i blank).sets.items ≡ []

-- times rise, and what is set are nets that no element drives
pub record CanApply (driven : List ℕ) (nets : ℕ) (stimulus : Stimulus) : Type 0 where
  pub rising : StepsRise stimulus.steps
  pub within : (t : ℕ) → All (λ c. c.0 < nets) (sets_at stimulus.steps t)
  pub free : (t : ℕ) → AreHanded driven (sets_at stimulus.steps t)
