-- What a run of a circuit under a stimulus is made from.
use Rattle.std.specs.Prelude.{ℕ}
use Rattle.sg_circuit.specs.Circuit.{Circuit}
use Rattle.sg_stimulus.specs.Stimulus.{Stimulus, sets_at}
use Rattle.sim_machine.specs.Simulated.{machine_of, first_state}
use Rattle.sim_times.specs.Runs.{Setting}

abbrev pub setting_of : Circuit → Stimulus → ℕ → Setting
setting_of circuit stimulus rounds = record { machine = machine_of circuit; first = first_state circuit; sets = sets_at stimulus.steps; bound = rounds; end = stimulus.end }
