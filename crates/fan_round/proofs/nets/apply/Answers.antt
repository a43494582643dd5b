use Rattle.std.proofs.Common.{arith}
use Rattle.fan_round.proofs.NetLaws.{apply_more}
use Rattle.fan_round.proofs.nets.apply.Goals as goal

pub loop-change-preserved : goal.loop-change-preserved
loop-change-preserved c = record {
  values = apply_more c.args.changes.now c.loop-change.change-index _ c.args.values.now c.loop-change.values c.set_value.new.values c.loop-change-test.true c.loop-change.invariant.values c.set_value.ensures.values;
  changed = c.set_value.ensures.changed;
  capacity = omega (arith, c.set_value.ensures.capacity, c.loop-change.invariant.capacity);
}
