use Rattle.std.proofs.Common.{◌↔◌, length, map}
use Rattle.sg_stimulus.specs.Applied.{StepsRise}
use Rattle.sg_stimulus.specs.Seen.{step_seen}
use Rattle.sg_stimulus.proofs.fitting.steps_rise.Given as goal

-- the rest decides
abbrev pub invariant-loop-rest : goal.invariant-loop-rest
invariant-loop-rest l = StepsRise (map (λ s. step_seen s) l.rest) ↔ StepsRise (map (λ s. step_seen s) l.fn.steps)

abbrev pub decreases-loop-rest : goal.decreases-loop-rest
decreases-loop-rest l = length l.rest
