use Rattle.std.proofs.Common.{◌≡◌, ℕ, ◌<◌}
use Rattle.settle_bound.specs.Orders.{at}
use Rattle.settle_bound.proofs.settling.first_waiting.Given as goal

abbrev pub invariant-loop-net : goal.invariant-loop-net
invariant-loop-net l = (n : ℕ) → n < l.net → at l.waits n ≡ 0
