-- What was reached.
use Rattle.std.proofs.Common.{length, map}
use Rattle.sg_stimulus.specs.Seen.{step_seen}
use Rattle.stim_read.specs.Meant.{Reached, scale_seen}
use Rattle.stim_read.specs.Seen.{stated_seen}
use Rattle.stim_read.proofs.steps.read_all.Given as goal

abbrev pub invariant-loop-rest : goal.invariant-loop-rest
invariant-loop-rest l = Reached l.inputs.circuit.now (scale_seen l.scale) (map (λ s. stated_seen s) l.stated) (map (λ s. stated_seen s) l.rest) (map (λ s. step_seen s) l.steps.items) l.state

abbrev pub decreases-loop-rest : goal.decreases-loop-rest
decreases-loop-rest l = length l.rest
