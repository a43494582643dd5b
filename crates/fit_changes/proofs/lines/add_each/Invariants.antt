-- The lines so far, and the line where the last change ends.
use Rattle.std.specs.Prelude.{◌≡◌, ◌++◌, drop, map, take}
use Rattle.fit_changes.specs.Changes.{AreInOrder, change_seen}
use Rattle.fit_changes.specs.Lines.{line_of, line_seen, told_line}
use Rattle.fit_changes.proofs.lines.add_each.Given as goal

abbrev pub invariant-loop-change : goal.invariant-loop-change
invariant-loop-change l = record {
  order : AreInOrder l.from l.source (map change_seen (drop l.change-index l.changes));
  line : l.line ≡ line_of l.source l.from;
  lines : map line_seen l.lines.items ≡ map line_seen l.fn.lines.items ++ map (λ c. told_line l.file (line_of l.source c.byte) c) (map change_seen (take l.change-index l.changes));
}
