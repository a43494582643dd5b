use Rattle.std.proofs.Common.{◌≡◌, ◌++◌, drop}
use Rattle.late_limits.specs.Grouping.{pins_by}
use Rattle.written_entries.specs.Groups.{any_check, check_scope}
use Rattle.written_entries.proofs.groups.check_pins.Given as goal

-- the rest completes it
abbrev pub invariant-loop-number : goal.invariant-loop-number
invariant-loop-number l = l.pins.items ++ pins_by check_scope any_check l.number (drop l.number l.checks) ≡ pins_by check_scope any_check 0 l.checks
