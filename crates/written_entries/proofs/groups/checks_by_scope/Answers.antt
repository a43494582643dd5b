use Rattle.late_limits.specs.Grouping.{pins_by}
use Rattle.written_entries.specs.Groups.{any_check, check_scope}
use Rattle.written_entries.proofs.NumberLaws.{pins_within, has_pins}
use Rattle.written_entries.proofs.groups.checks_by_scope.Goals as goal

pub of_pins-requires : goal.of_pins-requires
of_pins-requires c = pins_within check_scope any_check c.args.scopes c.args.checks.now c.in_ok-pins.pins.items c.deref.result.now c.requires.scopes c.in_ok-pins.ensures c.deref.ensures.value

pub returns-clause-table : goal.returns-clause-table
returns-clause-table c = has_pins (pins_by check_scope any_check 0 c.args.checks.now) c.in_ok-pins.pins.items c.deref.result.now c.of_pins.result c.in_ok-pins.ensures c.deref.ensures.value c.of_pins.ensures.each
