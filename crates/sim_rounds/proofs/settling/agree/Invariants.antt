use Rattle.std.proofs.Common.{◌≡◌, ℕ, ◌<◌, All, length}
use Rattle.sg_circuit.specs.Circuit.{Element}
use Rattle.sg_circuit.specs.Seen.{circuit_seen}
use Rattle.sg_model.specs.Values.{value_at}
use Rattle.sim_machine.specs.Inputs.{HasRoom}
use Rattle.sim_machine.specs.Simulated.{machine_of}
use Rattle.sim_rounds.proofs.settling.agree.Given as goal

abbrev pub invariant-loop-number : goal.invariant-loop-number
invariant-loop-number g l = record {
  computed : (k : ℕ) → k < l.number → (machine_of (circuit_seen l.parts)).value k l.nets l.nets (value_at l.values k) ≡ value_at l.values k;
  room : All (λ (x : Element). HasRoom l.inputs (length x.inputs)) (circuit_seen l.parts).elements;
}
