use Rattle.std.proofs.Common.{length}
use Rattle.sim_save.specs.Sections.{AreTransitions}
use Rattle.sim_save.proofs.sections.read_pending.Given as goal

abbrev pub invariant-loop-transition : goal.invariant-loop-transition
invariant-loop-transition l = AreTransitions l.pending.items l.text l.left

abbrev pub decreases-loop-transition : goal.decreases-loop-transition
decreases-loop-transition l = length l.left
