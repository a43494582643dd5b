use Rattle.std.proofs.Common.{map, take}
use Rattle.sim_rounds.specs.MomentsSeen.{pending_seen}
use Rattle.sim_rounds.proofs.PendingLaws.{AreReached}
use Rattle.sim_rounds.proofs.settling.follow.Given as goal

abbrev pub invariant-loop-next : goal.invariant-loop-next
invariant-loop-next l = AreReached (take l.next-index (map (λ p. pending_seen p) l.pending)) l.fn.times l.fn.values l.times l.values
