use Rattle.std.proofs.Common.{◌∙◌, sym, ap, arith, slice_index_or}
use Rattle.std.specs.List.{filter}
use Rattle.fan_round.specs.Work.{with_marks}
use Rattle.fan_round.proofs.WorkLaws.{with_readers-more}
use Rattle.time_checks.specs.Watching.{change_number_at, takes, taken_fan}
use Rattle.time_checks.proofs.TouchLaws.{readers-taken}
use Rattle.time_checks.proofs.touching.mark_checks.Goals as goal

pub loop-net-preserved : goal.loop-net-preserved
loop-net-preserved c =
    let net = slice_index_or c.args.changed.now c.loop-net.net-index 0 in
    record {
      marks = with_readers-more (taken_fan c.args.watches.now c.args.last.now c.args.values.now c.args.index.now) c.args.changed.now c.loop-net.net-index 0 c.args.marks.now c.loop-net.marks c.mark_at.new.marks c.loop-net-test.true c.loop-net.invariant.marks
          (c.mark_at.ensures.marks
          ∙ (ap (λ es. with_marks (filter (takes c.args.watches.now net (change_number_at c.args.last.now c.args.values.now net)) es) c.loop-net.marks) c.of.ensures
          ∙ ap (λ es. with_marks es c.loop-net.marks) (sym (readers-taken c.args.watches.now c.args.last.now c.args.values.now c.args.index.now net (c.requires.nets c.loop-net.net-index 0 c.loop-net-test.true)))));
      marked = c.mark_at.ensures.marked;
      capacity = omega (arith, c.mark_at.ensures.capacity, c.loop-net.invariant.capacity);
    }
