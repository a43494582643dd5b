-- One instance more, or all.
use Rattle.std.proofs.Common.{◌<◌, length, arith}
use Rattle.elab_hierarchy.proofs.Least.{finer-next, finest-is}
use Rattle.elab_hierarchy.proofs.ticks.tick.Goals as goal

pub loop-instance-preserved : goal.loop-instance-preserved
loop-instance-preserved c =
    let lt : c.loop-instance.instance-index < length c.args.instances.now = omega arith in
    finer-next c.args.definitions.now c.args.top _ c.instance-item.result c.args.instances.now c.loop-instance.least.power c.precision.result.power c.finer-least.result.power c.loop-instance.instance-index lt c.instance-item.is c.precision.ensures c.finer-least.ensures c.loop-instance.invariant

pub returns : goal.returns
returns c = finest-is c.args.definitions.now c.args.top c.args.instances.now c.loop-instance.least.power c.loop-instance.instance-index (omega arith) c.loop-instance.invariant
