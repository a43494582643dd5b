use Rattle.std.proofs.Common.{◌≡◌, ◌++◌, map, drop}
use Rattle.sg_circuit.specs.Seen.{element_seen}
use Rattle.sim_rounds.specs.Moments.{udp_states}
use Rattle.sim_rounds.proofs.pausing.primitive_states.Given as goal

-- the states of the elements that are left complete the list
abbrev pub invariant-loop-number : goal.invariant-loop-number
invariant-loop-number l =
    l.kept.items ++ udp_states (map (element_seen l.parts) (drop l.number l.parts.elements.items)) (drop l.number l.states) ≡ udp_states (map (element_seen l.parts) l.parts.elements.items) l.states
