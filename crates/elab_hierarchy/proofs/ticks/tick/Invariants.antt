-- The least so far leads to the tick.
use Rattle.elab_hierarchy.proofs.Least.{LeadsToTick}
use Rattle.elab_hierarchy.proofs.ticks.tick.Given as goal

abbrev pub invariant-loop-instance : goal.invariant-loop-instance
invariant-loop-instance l = LeadsToTick l.definitions l.top l.instances l.least.power l.instance-index
