-- What timing checks make of a snapshot, and which nets they may toggle.
use Rattle.std.specs.Prelude.{◌≡◌, ℕ, ◌<◌, All, List, ◌∷◌, ◌++◌, map}
use Rattle.sg_logic.specs.declared.values.Value.{Value}
use Rattle.sg_model.specs.Machine.{Snapshot, Violation, IsNoOutput, AreOutputs}
use Rattle.sg_model.specs.Time.{toggles as toggles_of}
use Rattle.sg_stimulus.specs.declared.steps.Set.{Set}
use Rattle.sg_stimulus.specs.Seen.{set_seen}
use Rattle.time_checks.specs.declared.violations.Violation as code_violation
use Rattle.time_checks.specs.Falling.{DontFall}
use Rattle.time_checks.specs.Seen.{violation_seen}

-- violations were added, and the toggles of their notifiers handed in; they are those of the snapshot, by whatever snapshots were seen before,
-- none of which is later
pub record HasSeen (violated : List Snapshot → List Violation) (notifiers : List Violation → List ℕ) (stands after : List Snapshot → Type 0) (now : ℕ) (values : List Value) (old new : List code_violation.Violation) (toggles : List Set) : Type 0 where
  pub found : List Violation
  pub added : map (λ v. violation_seen v) new ≡ map (λ v. violation_seen v) old ++ found
  pub handed : map (λ c. set_seen c) toggles ≡ toggles_of (notifiers found) values
  pub each : (ss : List Snapshot) → stands ss → DontFall now ss → (found ≡ violated (record { time = now; values = values } ∷ ss)) × after (record { time = now; values = values } ∷ ss)

-- nets that no element drives, each once
pub record AreFree (driven : List ℕ) (nets : ℕ) (ns : List ℕ) : Type 0 where
  pub within : All (λ n. n < nets) ns
  pub undriven : All (λ n. IsNoOutput n driven) ns
  pub once : AreOutputs ns
