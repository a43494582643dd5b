use Rattle.std.proofs.Common.{◌≡◌, ◌++◌, drop}
use Rattle.late_limits.specs.Grouping.{element_scope, pins_by}
use Rattle.written_entries.specs.Groups.{is_delayed}
use Rattle.written_entries.proofs.groups.element_pins.Given as goal

-- the rest completes it
abbrev pub invariant-loop-number : goal.invariant-loop-number
invariant-loop-number l = l.pins.items ++ pins_by element_scope is_delayed l.number (drop l.number l.elements) ≡ pins_by element_scope is_delayed 0 l.elements
