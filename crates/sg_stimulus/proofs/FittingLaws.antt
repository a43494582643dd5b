-- The tests of a stimulus say what can be applied.
use Rattle.std.specs.Prelude.{◌≢◌, ◌↔◌, ℕ, ◌<◌, ◌≤◌, ◌^◌, All, List, map}
use Rattle.std.proofs.lemmas.List.Elements.{All-map}
use Rattle.sg_circuit.specs.Circuit.{Circuit}
use Rattle.sg_circuit.proofs.SeenLaws.{all-unmapped}
use Rattle.sg_stimulus.specs.declared.steps.Set.{Set}
use Rattle.sg_stimulus.specs.declared.steps.StimStep.{StimStep}
use Rattle.sg_stimulus.specs.declared.steps.Stimulus as code_stimulus
use Rattle.sg_stimulus.specs.Seen.{set_seen, step_seen, stimulus_seen}
use Rattle.sg_stimulus.specs.Applied.{IsApplied, IsInput, SetsNot, SetsOnce, StepsRise}

pub sets_not_seen : (net : ℕ) (sets : List Set) → All (λ c. c.net ≢ net) sets ↔ SetsNot net (map (λ c. set_seen c) sets)
sets_not_seen net sets = (λ h. All-map (λ c. c.0 ≢ net) (λ c. set_seen c) sets h, λ h. all-unmapped (λ c. c.0 ≢ net) (λ c. set_seen c) sets h)

-- each step's sets are of inputs
pub inputs_seen : (circuit : Circuit) (steps : List StimStep) → All (λ s. All (λ c. IsInput circuit c.net) s.sets.items) steps → All (λ s. All (λ c. IsInput circuit c.0) s.sets) (map (λ x. step_seen x) steps)
inputs_seen circuit steps h = All-map (λ s. All (λ c. IsInput circuit c.0) s.sets) (λ x. step_seen x) steps (λ i d l. All-map (λ c. IsInput circuit c.0) (λ c. set_seen c) _ (h i d l))

pub inputs_unseen : (circuit : Circuit) (steps : List StimStep) → All (λ s. All (λ c. IsInput circuit c.0) s.sets) (map (λ x. step_seen x) steps) → All (λ s. All (λ c. IsInput circuit c.net) s.sets.items) steps
inputs_unseen circuit steps h = λ i d l. all-unmapped (λ c. IsInput circuit c.0) (λ c. set_seen c) _ (all-unmapped (λ s. All (λ c. IsInput circuit c.0) s.sets) (λ x. step_seen x) steps h i d l)

pub can_apply : (circuit : Circuit) (stimulus : code_stimulus.Stimulus) → StepsRise (map (λ x. step_seen x) stimulus.steps.items) → All (λ s. s.time ≤ stimulus.end) stimulus.steps.items → stimulus.end < 2 ^ 60 → All (λ s. SetsOnce (map (λ c. set_seen c) s.sets.items)) stimulus.steps.items
    → All (λ s. All (λ c. IsInput circuit c.net) s.sets.items) stimulus.steps.items → IsApplied circuit (stimulus_seen stimulus)
can_apply circuit stimulus rise within fits once inputs = record {
  rising = rise;
  within = All-map (λ s. s.time ≤ stimulus.end) (λ x. step_seen x) stimulus.steps.items within;
  fits = fits;
  once = All-map (λ s. SetsOnce s.sets) (λ x. step_seen x) stimulus.steps.items once;
  inputs = inputs_seen circuit stimulus.steps.items inputs;
}

pub keeps_to_end : (circuit : Circuit) (stimulus : code_stimulus.Stimulus) → IsApplied circuit (stimulus_seen stimulus) → All (λ s. s.time ≤ stimulus.end) stimulus.steps.items
keeps_to_end circuit stimulus h = all-unmapped (λ s. s.time ≤ stimulus.end) (λ x. step_seen x) stimulus.steps.items h.within

pub sets_each_once : (circuit : Circuit) (stimulus : code_stimulus.Stimulus) → IsApplied circuit (stimulus_seen stimulus) → All (λ s. SetsOnce (map (λ c. set_seen c) s.sets.items)) stimulus.steps.items
sets_each_once circuit stimulus h = all-unmapped (λ s. SetsOnce s.sets) (λ x. step_seen x) stimulus.steps.items h.once
