use Rattle.std.proofs.Common.{◌≡◌, length, take}
use Rattle.fan_round.specs.Work.{with_marks}
use Rattle.wave_out.specs.Marks.{seen, AreMarks}
use Rattle.wave_out.proofs.changes.mark_all.Given as goal

-- the variables so far are marked
abbrev pub invariant-loop-k : goal.invariant-loop-k
invariant-loop-k l = record {
  marks : AreMarks l.marks;
  seen : seen l.marks.words.items ≡ with_marks (take l.k-index l.variables) (seen l.fn.marks.words.items);
  words : length l.marks.words.items ≡ length l.fn.marks.words.items;
}
