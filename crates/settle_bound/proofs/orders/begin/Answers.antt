use Rattle.std.proofs.Common.{length, subst}
use Rattle.settle_bound.specs.Orders.{AreReady}
use Rattle.settle_bound.proofs.StartLaws.{order-begun}
use Rattle.settle_bound.proofs.orders.begin.Goals as goal

pub returns : goal.returns
returns c =
    order-begun c.args.ways.now (record { bounds = c.in_ok-bounds.bounds; waits = c.in_ok-waits.waits; ready = c.in_ok-ready.ready }) c.requires
    c.in_ok-waits.ensures.counted c.in_ok-waits.ensures.each c.in_ok-bounds.ensures.alone c.in_ok-bounds.ensures.each
    (subst (λ ws. AreReady (length ws) ws c.in_ok-ready.ready.items) c.deref.ensures.value c.in_ok-ready.ensures)
