use Rattle.std.proofs.Common.{◌≡◌, take}
use Rattle.settle_bound.specs.Hops.{longest}
use Rattle.settle_bound.proofs.weights.longest.Given as goal

abbrev pub invariant-loop-delay : goal.invariant-loop-delay
invariant-loop-delay l = l.most ≡ longest (take l.delay-index l.delays)
