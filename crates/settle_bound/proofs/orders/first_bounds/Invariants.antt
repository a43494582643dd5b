use Rattle.std.proofs.Common.{◌≡◌, length, take}
use Rattle.settle_bound.specs.Orders.{AreAlone}
use Rattle.settle_bound.proofs.orders.first_bounds.Given as goal

abbrev pub invariant-loop-link : goal.invariant-loop-link
invariant-loop-link l = record { alone : AreAlone (take l.link-index l.ways.links.items) l.ways.links.items l.ways.pins.items l.bounds.items; each : length l.bounds.items ≡ l.ways.nets }
