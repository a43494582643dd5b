use Rattle.std.proofs.Common.{not}
use Rattle.std.specs.List.{count_by}
use Rattle.settle_bound.proofs.RingLaws.{Walks}
use Rattle.settle_bound.proofs.rings.walk_back.Given as goal

abbrev pub invariant-loop-seen : goal.invariant-loop-seen
invariant-loop-seen l = Walks l.ways l.waits l.start l.net l.hops.items l.seen.items

-- the nets that weren't seen
abbrev pub decreases-loop-seen : goal.decreases-loop-seen
decreases-loop-seen l = count_by not l.seen.items
