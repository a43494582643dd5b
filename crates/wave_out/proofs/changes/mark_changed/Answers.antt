use Rattle.std.proofs.Common.{◌∙◌}
use Rattle.wave_out.specs.Marks.{seen}
use Rattle.wave_out.proofs.ChangeLaws.{net_marked}
use Rattle.wave_out.proofs.changes.mark_changed.Goals as goal

pub loop-change-preserved : goal.loop-change-preserved
loop-change-preserved c = record {
  marks = c.mark_net.ensures.marks;
  seen = net_marked c.args.index.now c.args.count c.loop-change.change-index c.args.changed.now _ (seen c.args.marks.now.words.items) (seen c.loop-change.marks.words.items) (seen c.mark_net.new.marks.words.items)
      c.loop-change-test.true c.mark_net.ensures.seen c.loop-change.invariant.seen;
  words = c.mark_net.ensures.words ∙ c.loop-change.invariant.words;
}
