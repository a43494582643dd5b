-- A stimulus that makes the run of another again.
use Rattle.std.specs.Prelude.{◌≡◌, ℕ, List, None}
use Rattle.sg_circuit.specs.Circuit.{Circuit}
use Rattle.sg_stimulus.specs.Applied.{IsApplied}
use Rattle.sg_stimulus.specs.Stimulus.{Stimulus}
use Rattle.sim_rounds.specs.Simulated.{run_of_circuit}
use Rattle.wave_out.specs.Vcd.{vcd_text}

-- the dump of a circuit's run under a stimulus, with a bound on the rounds of one time
abbrev pub dump_of : Circuit → (rounds : ℕ) → Stimulus → List ℕ
dump_of circuit rounds stimulus = vcd_text circuit stimulus.end (run_of_circuit circuit rounds stimulus)

-- it can be applied, and has the same end, dump and violations
pub record MakesAgain (circuit : Circuit) (rounds : ℕ) (stimulus wave : Stimulus) : Type 0 where
  pub applied : IsApplied circuit wave
  pub end : wave.end ≡ stimulus.end
  pub whole : (run_of_circuit circuit rounds wave).spent ≡ None
  pub dump : dump_of circuit rounds wave ≡ dump_of circuit rounds stimulus
  pub violations : (run_of_circuit circuit rounds wave).run.violations ≡ (run_of_circuit circuit rounds stimulus).run.violations
