use Rattle.std.proofs.Common.{arith}
use Rattle.time_checks.specs.Watching.{takes}
use Rattle.time_checks.proofs.TouchLaws.{taken_more}
use Rattle.time_checks.proofs.touching.mark_all_taken.Goals as goal

pub loop-number-preserved : goal.loop-number-preserved
loop-number-preserved c = record {
  marks = taken_more (takes c.args.watches.now c.args.net c.args.change) c.args.numbers.now c.loop-number.number-index 0 c.args.marks.now c.loop-number.marks c.mark_taken.new.marks c.loop-number-test.true c.loop-number.invariant.marks c.mark_taken.ensures.marks;
  marked = c.mark_taken.ensures.marked;
  capacity = omega (arith, c.mark_taken.ensures.capacity, c.loop-number.invariant.capacity);
}
