-- The lines so far.
use Rattle.std.specs.Prelude.{◌≡◌, ◌++◌, map, take}
use Rattle.fit_changes.specs.Lines.{line_seen}
use Rattle.fit_changes.specs.Report.{lines_text}
use Rattle.fit_changes.proofs.report.push_lines.Given as goal

abbrev pub invariant-loop-line : goal.invariant-loop-line
invariant-loop-line l = l.text.items ≡ l.fn.text.items ++ lines_text (map (λ n. n.now) l.names) (map line_seen (take l.line-index l.lines))
