-- Those of one scope more.
use Rattle.std.proofs.Common.{◌<◌, length, arith}
use Rattle.annotation_places.proofs.StepLaws.{scope_more}
use Rattle.annotation_places.proofs.variable_index.variables.Goals as goal

pub loop-number-preserved : goal.loop-number-preserved
loop-number-preserved c =
    let lt : c.loop-number.number < length c.args.parts.now.scopes.items = omega (arith, c.loop-number-test.true, c.requires.few) in
    record {
      reached = omega (arith, lt);
      holds = scope_more c.args.parts.now c.loop-number.index c.add_variables.new.index c.loop-number.number c.index.result.now c.deref.result.now lt c.index.ensures c.deref.ensures.value
          c.loop-number.invariant.holds c.in_ok-add_variables.ensures;
    }
