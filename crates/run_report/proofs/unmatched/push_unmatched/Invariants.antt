-- The lines of the entries so far; the line of the last of them is known.
use Rattle.std.proofs.Common.{◌≡◌, ◌++◌, flat_map, map, take}
use Rattle.run_report.specs.Report.{unmatched_line}
use Rattle.run_report.specs.Reporting.{IsReached, unmatched_seen}
use Rattle.run_report.proofs.unmatched.push_unmatched.Given as goal

abbrev pub invariant-loop-entry : goal.invariant-loop-entry
invariant-loop-entry l = record {
  text : l.text.items ≡ l.fn.text.items ++ flat_map unmatched_line (map (unmatched_seen l.sdf) (take l.entry-index l.unmatched));
  reached : IsReached l.sdf l.reached;
}
