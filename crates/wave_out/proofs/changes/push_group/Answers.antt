use Rattle.std.proofs.Common.{◌∙◌}
use Rattle.wave_out.proofs.ListingLaws.{listed_word}
use Rattle.wave_out.proofs.changes.push_group.Goals as goal

pub loop-marks-preserved : goal.loop-marks-preserved
loop-marks-preserved g c = record {
  listed = listed_word c.args.variables.now (g.N.Nets.values c.args.nets.now) c.args.group c.take_word-first.result.0 c.take_word-first.result.1 c.args.marks.now c.loop-marks.marks c.take_word-first.new.self
      c.args.text.now.items c.loop-marks.text.items c.push_word.new.text.items c.take_word-first.ensures.marks c.take_word-first.ensures.done c.take_word-first.ensures.taken c.in_ok-push_word.ensures c.loop-marks.invariant.listed;
  words = c.take_word-first.ensures.words ∙ c.loop-marks.invariant.words;
  groups = c.take_word-first.ensures.groups ∙ c.loop-marks.invariant.groups;
}
