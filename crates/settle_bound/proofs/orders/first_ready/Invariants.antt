use Rattle.settle_bound.specs.Orders.{AreReady}
use Rattle.settle_bound.proofs.orders.first_ready.Given as goal

abbrev pub invariant-loop-net : goal.invariant-loop-net
invariant-loop-net l = AreReady l.net l.waits l.ready.items
