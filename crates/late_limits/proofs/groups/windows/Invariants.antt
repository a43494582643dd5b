use Rattle.std.proofs.Common.{◌≡◌, ◌++◌, drop}
use Rattle.std.specs.List.{zip}
use Rattle.late_limits.specs.Grouping.{check_scope, is_among, pins_by}
use Rattle.late_limits.proofs.groups.windows.Given as goal

-- the rest completes it
abbrev pub invariant-loop-number : goal.invariant-loop-number
invariant-loop-number l = l.pins.items ++ pins_by check_scope (is_among l.scopes) l.number (drop l.number (zip l.checks l.timings)) ≡ pins_by check_scope (is_among l.scopes) 0 (zip l.checks l.timings)
