use Rattle.std.proofs.Common.{◌≡◌, ◌++◌, flat_map, take}
use Rattle.run_report.specs.Report.{zeroed_line}
use Rattle.run_report.proofs.zeroed.push_zeroed.Given as goal

-- the lines of the limits so far
abbrev pub invariant-loop-zero : goal.invariant-loop-zero
invariant-loop-zero l = l.text.items ≡ l.fn.text.items ++ flat_map (zeroed_line l.circuit) (take l.zero-index l.zeroed)
