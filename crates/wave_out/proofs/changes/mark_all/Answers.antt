use Rattle.std.proofs.Common.{◌∙◌}
use Rattle.fan_round.proofs.WorkLaws.{with_marks-more}
use Rattle.wave_out.specs.Marks.{seen}
use Rattle.wave_out.proofs.changes.mark_all.Goals as goal

pub loop-k-preserved : goal.loop-k-preserved
loop-k-preserved c = record {
  marks = c.mark.ensures.marks;
  seen = with_marks-more c.args.variables.now c.loop-k.k-index _ (seen c.args.marks.now.words.items) (seen c.loop-k.marks.words.items) (seen c.mark.new.self.words.items)
      c.loop-k-test.true c.loop-k.invariant.seen c.mark.ensures.seen;
  words = c.mark.ensures.words ∙ c.loop-k.invariant.words;
}
