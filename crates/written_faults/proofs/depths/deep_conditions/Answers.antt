use Rattle.written_faults.proofs.DepthLaws.{deep_of}
use Rattle.written_faults.proofs.depths.deep_conditions.Goals as goal

pub returns : goal.returns
returns c = deep_of c.args.conditions.now c.loop-condition.deep.items c.loop-condition.condition-index c.loop-condition.invariant c.loop-condition-test.false
