-- What was made, and what comes of the rest, are the whole.
use Rattle.std.specs.Prelude.{◌≡◌, ◌≤◌, ◌++◌, drop, length, map}
use Rattle.fit_changes.specs.Changes.{AreInOrder, change_seen, changed, changed_from}
use Rattle.fit_changes.proofs.changes.changed_text.Given as goal

abbrev pub invariant-loop-change : goal.invariant-loop-change
invariant-loop-change l = record {
  order : AreInOrder l.from l.text (map change_seen (drop l.change-index l.changes));
  from : l.from ≤ length l.text;
  made : l.made.items ++ changed_from l.from (drop l.from l.text) (map change_seen (drop l.change-index l.changes)) ≡ changed l.text (map change_seen l.changes);
}
