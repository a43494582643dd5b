-- One scope more.
use Rattle.std.proofs.Common.{◌<◌, length, arith}
use Rattle.annotation_places.proofs.StepLaws.{instance_more}
use Rattle.annotation_places.proofs.scope_indexes.instances.Goals as goal

pub loop-number-preserved : goal.loop-number-preserved
loop-number-preserved c =
    let lt : c.loop-number.number < length c.args.parts.now.scopes.items = omega (arith, c.loop-number-test.true, c.requires.few) in
    record {
      reached = omega (arith, lt);
      holds = instance_more c.args.parts.now c.loop-number.index c.add_inside.new.index c.loop-number.number c.index.result.now lt c.index.ensures c.loop-number.invariant.holds c.in_ok-add_inside.ensures;
    }
