-- What is so of each moment that a run comes to.
use Rattle.std.specs.Prelude.{◌≡◌, ℕ, suc, ◌-◌, ◌<◌, ◌≤◌, [], None}
use Rattle.sg_circuit.specs.Circuit.{Circuit}
use Rattle.sg_circuit.specs.Closed.{IsClosed}
use Rattle.sg_stimulus.specs.Stimulus.{Stimulus}
use Rattle.sg_stimulus.specs.Applied.{IsApplied}
use Rattle.sg_model.specs.Time.{Run}
use Rattle.sg_model.specs.Run.{last_change, lasts}
use Rattle.sim_times.specs.Runs.{changed_since, run_for, run_from}
use Rattle.sim_rounds.specs.Moments.{Fits, Moment, moment_of, state_of}
use Rattle.sim_rounds.specs.Setting.{setting_of}
use Rattle.sim_machine.specs.Simulated.{first_state}
use Rattle.sim_rounds.specs.Stopping.{origin_at, setting_since}

-- it fits the circuit, and its state is that of the run
pub record IsWhole (circuit : Circuit) (r : Run) (m : Moment) : Type 0 where
  pub fits : Fits circuit m
  pub state : state_of circuit m ≡ r.state

pub record MomentsFit : Type 0 where
  pub of_runs : (circuit : Circuit) (stimulus : Stimulus) (bound until evaluations : ℕ) → IsClosed circuit → IsApplied circuit stimulus → until < stimulus.end
      → (run_for (setting_of circuit stimulus bound) (suc until)).spent ≡ None
      → IsWhole circuit (run_for (setting_of circuit stimulus bound) (suc until)).run
      (moment_of circuit [] until (run_for (setting_of circuit stimulus bound) (suc until)).run (last_change (first_state circuit).values (lasts (run_for (setting_of circuit stimulus bound) (suc until)).run.snapshots)) evaluations)
  pub of_rests : (circuit : Circuit) (stimulus : Stimulus) (bound : ℕ) (m : Moment) (until evaluations : ℕ) → IsClosed circuit → IsApplied circuit stimulus → Fits circuit m → m.time ≤ until → until < stimulus.end
      → (run_from (setting_since circuit stimulus bound m) (origin_at circuit stimulus.end m) (until - m.time)).spent ≡ None
      → IsWhole circuit (run_from (setting_since circuit stimulus bound m) (origin_at circuit stimulus.end m) (until - m.time)).run
      (moment_of circuit m.latest until (run_from (setting_since circuit stimulus bound m) (origin_at circuit stimulus.end m) (until - m.time)).run
      (changed_since m.last (last_change m.nets (lasts (run_from (setting_since circuit stimulus bound m) (origin_at circuit stimulus.end m) (until - m.time)).run.snapshots))) evaluations)
