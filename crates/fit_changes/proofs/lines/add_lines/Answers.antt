-- One file more.
use Rattle.std.specs.Prelude.{map}
use Rattle.fit_changes.specs.Changes.{change_seen}
use Rattle.fit_changes.specs.Lines.{line_seen}
use Rattle.fit_changes.proofs.LineLaws.{file-more}
use Rattle.fit_changes.proofs.lines.add_lines.Goals as goal

pub loop-changes-preserved : goal.loop-changes-preserved
loop-changes-preserved c =
    file-more (map line_seen c.loop-changes.lines.items) (map line_seen c.add_each.new.lines.items) c.args.list.now c.loop-changes.changes-index c.changes-item.result c.text.result.now
    (map change_seen c.changes.result.now) c.loop-changes.file c.in-Some.next _ c.loop-changes-test.true c.changes-item.is c.text.ensures.text c.changes.ensures.changes c.in-Some.ensures.1 c.loop-changes.invariant c.in_ok-add_each.ensures
