-- The lines of the files so far, and those to come.
use Rattle.std.specs.Prelude.{◌≡◌, ◌++◌, drop, map}
use Rattle.fit_changes.specs.Lines.{line_seen, lines_from}
use Rattle.fit_changes.proofs.lines.add_lines.Given as goal

abbrev pub invariant-loop-changes : goal.invariant-loop-changes
invariant-loop-changes l = map line_seen l.lines.items ++ lines_from l.file (drop l.changes-index l.list) ≡ map line_seen l.fn.lines.items ++ lines_from l.fn.first l.list
