use Rattle.sg_circuit.specs.Seen.{circuit_seen}
use Rattle.settle_bound.proofs.HopLaws.{Follows}
use Rattle.settle_bound.proofs.cycles.follow.Given as goal

abbrev pub invariant-loop-hop : goal.invariant-loop-hop
invariant-loop-hop l = Follows (circuit_seen l.parts) l.fn.first l.before l.hops l.hop-index
