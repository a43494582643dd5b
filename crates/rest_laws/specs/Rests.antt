-- A run that is stopped after a time, and one that goes on from the moment that it came to.
use Rattle.std.specs.Prelude.{◌≡◌, ℕ, ◌<◌, ◌≤◌, ◌++◌, All, List, [], ◌∷◌, None}
use Rattle.sg_circuit.specs.Circuit.{Circuit}
use Rattle.sg_circuit.specs.Closed.{IsClosed}
use Rattle.sg_stimulus.specs.Stimulus.{Stimulus}
use Rattle.sg_stimulus.specs.Applied.{IsApplied}
use Rattle.sg_model.specs.Machine.{Snapshot}
use Rattle.sg_model.specs.Run.{lasts}
use Rattle.sim_rounds.specs.Moments.{Moment, moment_after, run_since, run_up_to, snapshot_of}
use Rattle.sim_rounds.specs.Simulated.{run_of_circuit}

-- neither is spent; their violations are those of the whole run; so are the last snapshots of their times, where that of the moment counts once
pub record IsRest (circuit : Circuit) (bound : ℕ) (stimulus : Stimulus) (until : ℕ) (m : Moment) : Type 0 where
  pub stopped : (run_up_to circuit bound stimulus until).spent ≡ None
  pub unspent : (run_since circuit bound stimulus m).spent ≡ None
  pub violations : (run_of_circuit circuit bound stimulus).run.violations ≡ (run_up_to circuit bound stimulus until).run.violations ++ (run_since circuit bound stimulus m).run.violations
  pub later : List Snapshot
  pub older : List Snapshot
  pub after : All (λ s. until < s.time) later
  pub before : All (λ s. s.time ≤ until) older
  pub whole : lasts (run_of_circuit circuit bound stimulus).run.snapshots ≡ later ++ snapshot_of m ∷ older
  pub begun : lasts (run_up_to circuit bound stimulus until).run.snapshots ≡ snapshot_of m ∷ older
  pub rest : lasts (run_since circuit bound stimulus m).run.snapshots ≡ later ++ snapshot_of m ∷ []

-- wherever it is stopped before the end, if the whole run isn't spent
abbrev pub RestIsTheRest : Type 0
RestIsTheRest = (circuit : Circuit) (bound : ℕ) (stimulus : Stimulus) (until : ℕ) → IsClosed circuit → IsApplied circuit stimulus → until < stimulus.end → (run_of_circuit circuit bound stimulus).spent ≡ None
    → IsRest circuit bound stimulus until (moment_after circuit until (run_up_to circuit bound stimulus until))
