use Rattle.std.proofs.Common.{◌≡◌, map, take, reverse}
use Rattle.settle_bound.specs.Linked.{hop_of}
use Rattle.settle_bound.proofs.settling.hops_of.Given as goal

abbrev pub invariant-loop-place : goal.invariant-loop-place
invariant-loop-place l = l.hops.items ≡ map (hop_of l.elements) (take l.place (reverse l.numbers))
