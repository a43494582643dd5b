use Rattle.std.proofs.Common.{◌↔◌, length, map}
use Rattle.sg_stimulus.specs.Applied.{SetsOnce}
use Rattle.sg_stimulus.specs.Seen.{set_seen}
use Rattle.sg_stimulus.proofs.fitting.sets_once.Given as goal

-- the rest decides
abbrev pub invariant-loop-rest : goal.invariant-loop-rest
invariant-loop-rest l = SetsOnce (map (λ c. set_seen c) l.rest) ↔ SetsOnce (map (λ c. set_seen c) l.fn.sets)

abbrev pub decreases-loop-rest : goal.decreases-loop-rest
decreases-loop-rest l = length l.rest
