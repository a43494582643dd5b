-- One variable more.
use Rattle.std.proofs.Common.{◌<◌, length, arith}
use Rattle.annotation_index.specs.Index.{list_at}
use Rattle.annotation_places.proofs.StepLaws.{variable_more}
use Rattle.annotation_places.proofs.variable_index.add_variables.Goals as goal

pub loop-place-preserved : goal.loop-place-preserved
loop-place-preserved c =
    let lt : c.loop-place.place < length c.args.variables.now = omega (arith, c.loop-place-test.true, c.in_ok-count.ensures) in
    record {
      reached = omega (arith, lt);
      holds = variable_more (list_at c.args.index.now) c.loop-place.index c.add.new.self c.args.scope c.loop-place.place c.args.variables.now c.index-variables-place.result c.bytes.result.now lt
          c.bytes.ensures c.loop-place.invariant.holds c.in_ok-add.ensures.named c.in_ok-add.ensures.items;
    }
