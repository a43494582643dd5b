-- The laws of a circuit's machine, as statements.
use Rattle.sg_model.specs.Quiet.{IsLawful}
use Rattle.sg_model.specs.FanOut.{IsSteady}
use Rattle.sg_circuit.specs.Circuit.{Circuit}
use Rattle.fan_round.specs.Rounds.{IsLater}
use Rattle.sim_machine.specs.Simulated.{machine_of}

-- the machine of a circuit keeps what the model and the engine ask of a machine
abbrev pub CircuitIsLawful : Type 0
CircuitIsLawful = (circuit : Circuit) → IsLawful (machine_of circuit) × IsSteady (machine_of circuit) × IsLater (machine_of circuit)
