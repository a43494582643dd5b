use Rattle.std.proofs.Common.{◌≡◌, length, take}
use Rattle.fan_round.specs.Work.{with_readers}
use Rattle.wave_out.specs.Marks.{seen, AreMarks}
use Rattle.wave_out.proofs.ChangeLaws.{known}
use Rattle.wave_out.proofs.changes.mark_changed.Given as goal

-- the variables with the nets so far are marked
abbrev pub invariant-loop-change : goal.invariant-loop-change
invariant-loop-change l = record {
  marks : AreMarks l.marks;
  seen : seen l.marks.words.items ≡ with_readers l.index (known l.count (take l.change-index l.changed)) (seen l.fn.marks.words.items);
  words : length l.marks.words.items ≡ length l.fn.marks.words.items;
}
