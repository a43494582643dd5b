-- One check more.
use Rattle.std.proofs.Common.{◌<◌, length, arith}
use Rattle.annotation_places.proofs.StepLaws.{check_more}
use Rattle.annotation_places.proofs.place_indexes.checks_by_reference.Goals as goal

pub loop-number-preserved : goal.loop-number-preserved
loop-number-preserved c =
    let lt : c.loop-number.number < length c.args.parts.now.checks.items = omega (arith, c.loop-number-test.true, c.requires.closed.few_checks) in
    record {
      reached = omega (arith, lt);
      holds = check_more c.args.parts.now c.requires.closed c.loop-number.index c.add.new.self c.loop-number.number c.index-timing.result.now lt c.index-timing.ensures c.loop-number.invariant.holds
          c.in_ok-add.ensures.named c.in_ok-add.ensures.items;
    }
