use Rattle.std.proofs.Common.{◌≡◌, ◌++◌}
use Rattle.run_report.specs.Above.{climb, scopes_above, turns_of}
use Rattle.run_report.proofs.paths.scopes_above.Given as goal

-- the scopes that are left to climb complete the list
abbrev pub invariant-loop-next : goal.invariant-loop-next
invariant-loop-next l = l.above.items ++ climb l.circuit l.next ≡ scopes_above l.circuit l.scope

abbrev pub decreases-loop-next : goal.decreases-loop-next
decreases-loop-next l = turns_of l.next
