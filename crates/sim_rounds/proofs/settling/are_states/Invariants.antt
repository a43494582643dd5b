use Rattle.std.proofs.Common.{◌≡◌, ◌↔◌, drop}
use Rattle.sg_circuit.specs.Seen.{circuit_seen}
use Rattle.sim_rounds.specs.Moments.{udp_states}
use Rattle.sim_rounds.proofs.settling.are_states.Given as goal

abbrev pub invariant-loop-number : goal.invariant-loop-number
invariant-loop-number l =
    (l.states ≡ udp_states (circuit_seen l.parts).elements l.values) ↔ (l.left ≡ udp_states (drop l.number (circuit_seen l.parts).elements) (drop l.number l.values))
