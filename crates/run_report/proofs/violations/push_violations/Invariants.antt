use Rattle.std.proofs.Common.{◌≡◌, ◌++◌, flat_map, map, take}
use Rattle.time_checks.specs.Seen.{violation_seen}
use Rattle.run_report.specs.Report.{violation_line}
use Rattle.run_report.proofs.violations.push_violations.Given as goal

-- the lines of the violations so far
abbrev pub invariant-loop-violation : goal.invariant-loop-violation
invariant-loop-violation l = l.text.items ≡ l.fn.text.items ++ flat_map (violation_line l.circuit) (map (λ v. violation_seen v) (take l.violation-index l.violations))
