use Rattle.std.proofs.Common.{take}
use Rattle.settle_bound.specs.Orders.{Released}
use Rattle.settle_bound.proofs.orders.release.Given as goal

abbrev pub invariant-loop-hop : goal.invariant-loop-hop
invariant-loop-hop l = Released l.links (take l.hop-index l.hops) l.before l.fn.order l.order
