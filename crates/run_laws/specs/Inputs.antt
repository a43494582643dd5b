-- Runs of a circuit under stimuli that leave its inputs with the same values, as a statement.
use Rattle.std.specs.Prelude.{◌≡◌, ◌≢◌, ◌<◌, ◌≤◌, ◌⊎◌, ◌==◌, ℕ, suc, true, All, IfSome, List, [], length, None}
use Rattle.std.specs.List.{list_any}
use Rattle.sg_logic.specs.declared.values.Value.{Value}
use Rattle.sg_model.specs.Values.{value_at}
use Rattle.sg_circuit.specs.declared.nets.Driver.TheVariants as driver
use Rattle.sg_circuit.specs.Circuit.{Circuit, net_at, element_at}
use Rattle.sg_circuit.specs.Closed.{IsNotifier}
use Rattle.sg_stimulus.specs.Applied.{IsApplied, IsInput}
use Rattle.sg_stimulus.specs.Stimulus.{Stimulus, sets_at}
use Rattle.sim_rounds.specs.Setting.{setting_of}
use Rattle.sim_rounds.specs.Simulated.{run_of_circuit}
use Rattle.sim_times.specs.Runs.{run_for}

-- of the circuits that are closed this is asked: what an element drives names it as its driver, and notifiers are driven by no other
pub record HasDrivers (circuit : Circuit) : Type 0 where
  pub named : (e : ℕ) → e < length circuit.elements → (net_at circuit (element_at circuit e).output).driver ≡ driver.Element e
  pub notifiers : All (λ k. IfSome k.notifier (λ n. IsNotifier circuit n)) circuit.checks

-- the nets after so many times of a run; before time 0 they are the first ones
abbrev pub nets_after : Circuit → (rounds : ℕ) → Stimulus → ℕ → List Value
nets_after circuit rounds stimulus n = (run_for (setting_of circuit stimulus rounds) n).run.state.values

abbrev pub IsSetBy : List (ℕ × Value) → ℕ → Type 0
IsSetBy sets net = list_any (λ c. c.0 == net) sets ≡ true

-- sets of a time set inputs to what they are after it, and each input that it changes
pub record TellInputs (circuit : Circuit) (before after : List Value) (sets : List (ℕ × Value)) : Type 0 where
  pub right : All (λ c. IsInput circuit c.0 × (c.1 ≡ value_at after c.0)) sets
  pub each : (net : ℕ) → IsInput circuit net → (value_at after net ≡ value_at before net) ⊎ IsSetBy sets net

-- a time changes an input
pub record Changes (circuit : Circuit) (before after : List Value) : Type 0 where
  pub net : ℕ
  pub input : IsInput circuit net
  pub differs : value_at after net ≢ value_at before net

-- a stimulus tells at each time what a run makes of the inputs, and behind time 0 it sets none where none changes
pub record TellsRun (circuit : Circuit) (rounds : ℕ) (stimulus again : Stimulus) : Type 0 where
  pub each : (time : ℕ) → time ≤ stimulus.end → TellInputs circuit (nets_after circuit rounds stimulus time) (nets_after circuit rounds stimulus (suc time)) (sets_at again.steps time)
  pub needed : (time : ℕ) → 0 < time → time ≤ stimulus.end → (sets_at again.steps time ≡ []) ⊎ Changes circuit (nets_after circuit rounds stimulus time) (nets_after circuit rounds stimulus (suc time))

-- the runs under two stimuli have the same nets at the same times, and the same violations
pub record AreSameRuns (circuit : Circuit) (rounds : ℕ) (stimulus again : Stimulus) : Type 0 where
  pub whole : (run_of_circuit circuit rounds again).spent ≡ None
  pub snapshots : (run_of_circuit circuit rounds again).run.snapshots ≡ (run_of_circuit circuit rounds stimulus).run.snapshots
  pub violations : (run_of_circuit circuit rounds again).run.violations ≡ (run_of_circuit circuit rounds stimulus).run.violations

-- such a stimulus makes the run again
abbrev pub InputsMakeTheRun : Type 0
InputsMakeTheRun = (circuit : Circuit) → HasDrivers circuit → (rounds : ℕ) (stimulus again : Stimulus) → IsApplied circuit stimulus → again.end ≡ stimulus.end
    → (run_of_circuit circuit rounds stimulus).spent ≡ None → TellsRun circuit rounds stimulus again → AreSameRuns circuit rounds stimulus again
