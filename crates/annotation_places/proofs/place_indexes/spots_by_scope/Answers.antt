-- One leg or path more.
use Rattle.std.proofs.Common.{◌<◌, length, arith}
use Rattle.annotation_places.proofs.StepLaws.{spot_more}
use Rattle.annotation_places.proofs.place_indexes.spots_by_scope.Goals as goal

pub loop-number-preserved : goal.loop-number-preserved
loop-number-preserved c =
    let lt : c.loop-number.number < length c.args.spots.now = omega (arith, c.loop-number-test.true, c.requires.few) in
    record {
      reached = omega (arith, lt);
      holds = spot_more c.args.parts.now c.args.spots.now _ c.loop-number.index c.add.new.self c.loop-number.number c.scope.result c.requires.rows lt c.scope.ensures c.loop-number.invariant.holds
          c.in_ok-add.ensures.named c.in_ok-add.ensures.items;
    }
