use Rattle.std.proofs.Common.{◌≡◌, ◌++◌, drop}
use Rattle.late_limits.specs.Grouping.{element_scope, is_late_among, pins_by}
use Rattle.late_limits.proofs.groups.lates.Given as goal

-- the rest completes it
abbrev pub invariant-loop-number : goal.invariant-loop-number
invariant-loop-number l = l.pins.items ++ pins_by element_scope (is_late_among l.scopes) l.number (drop l.number l.elements) ≡ pins_by element_scope (is_late_among l.scopes) 0 l.elements
