use Rattle.std.proofs.Common.{◌≡◌, length, take}
use Rattle.settle_bound.specs.Orders.{AreCounted}
use Rattle.settle_bound.proofs.orders.first_waits.Given as goal

abbrev pub invariant-loop-pin : goal.invariant-loop-pin
invariant-loop-pin l = record { counted : AreCounted l.ways.links.items (take l.pin-index l.ways.pins.items) l.waits.items; each : length l.waits.items ≡ l.ways.nets }
