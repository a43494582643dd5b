-- The run that is asked about.
use Rattle.std.specs.Prelude.{ℕ, ◌≡◌, List, Option}
use Rattle.sg_circuit.specs.Circuit.{Circuit}
use Rattle.sg_stimulus.specs.Stimulus.{Stimulus}
use Rattle.sg_model.specs.Machine.{Violation}
use Rattle.sg_model.specs.Run.{Finished}
use Rattle.sim_rounds.specs.Simulated.{first_state, run_of_circuit}
use Rattle.why_causes.specs.Waveform.{Waveform}
use Rattle.why_history.specs.Events.{AreEvents}

-- what is run
pub record Task : Type 0 where
  pub circuit : Circuit
  pub input : Stimulus

-- the run of a task, with this bound on the rounds of one time
abbrev pub run_of : Task → (rounds : ℕ) → Finished
run_of task rounds = run_of_circuit task.circuit rounds task.input

-- what a run came to: how its nets show it, its violations, and the time that was spent, if there was one, with a net
pub record Run : Type 0 where
  pub waveform : Waveform
  pub violations : List Violation
  pub spent : Option (ℕ × Option ℕ)

pub record IsRun (task : Task) (rounds : ℕ) (run : Run) : Type 0 where
  pub first : run.waveform.first ≡ (first_state task.circuit).values
  pub events : AreEvents (first_state task.circuit).values (run_of task rounds) run.waveform.events
  pub violations : run.violations ≡ (run_of task rounds).run.violations
  pub spent : run.spent ≡ (run_of task rounds).spent
