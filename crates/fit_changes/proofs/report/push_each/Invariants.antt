-- The rules so far.
use Rattle.std.specs.Prelude.{◌≡◌, ◌++◌, flat_map, map, take}
use Rattle.fit_changes.specs.Lines.{line_seen}
use Rattle.fit_changes.specs.Report.{rule_line}
use Rattle.fit_changes.proofs.report.push_each.Given as goal

abbrev pub invariant-loop-rule : goal.invariant-loop-rule
invariant-loop-rule l = l.text.items ≡ l.fn.text.items ++ flat_map (rule_line (map line_seen l.lines)) (take l.rule-index l.rules)
