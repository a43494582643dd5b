use Rattle.std.proofs.Common.{◌≤◌, length, take}
use Rattle.settle_bound.specs.Orders.{IsOrderOf}
use Rattle.settle_bound.proofs.orders.go_on.Given as goal

abbrev pub invariant-loop-place : goal.invariant-loop-place
invariant-loop-place l = record { so_far : IsOrderOf l.ways l.order (take l.place l.order.ready.items); there : l.place ≤ length l.order.ready.items }
