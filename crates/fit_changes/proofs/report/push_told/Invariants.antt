-- None so far may change values.
use Rattle.std.specs.Prelude.{◌≡◌, drop, map}
use Rattle.std.specs.List.{find}
use Rattle.fit_changes.specs.Lines.{line_seen}
use Rattle.fit_changes.specs.Report.{tells}
use Rattle.fit_changes.proofs.report.push_told.Given as goal

abbrev pub invariant-loop-line : goal.invariant-loop-line
invariant-loop-line l = record {
  text : l.text.items ≡ l.fn.text.items;
  found : find tells (map line_seen (drop l.line-index l.lines)) ≡ find tells (map line_seen l.lines);
}
