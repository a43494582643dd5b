use Rattle.std.proofs.Common.{◌↔◌, length}
use Rattle.settle_bound.specs.Chains.{AreOnce}
use Rattle.settle_bound.proofs.cycles.are_once.Given as goal

-- the rest decides
abbrev pub invariant-loop-rest : goal.invariant-loop-rest
invariant-loop-rest l = AreOnce l.rest ↔ AreOnce l.fn.hops

abbrev pub decreases-loop-rest : goal.decreases-loop-rest
decreases-loop-rest l = length l.rest
