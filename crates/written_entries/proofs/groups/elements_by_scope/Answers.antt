use Rattle.late_limits.specs.Grouping.{element_scope, pins_by}
use Rattle.written_entries.specs.Groups.{is_delayed}
use Rattle.written_entries.proofs.NumberLaws.{pins_within, has_pins}
use Rattle.written_entries.proofs.groups.elements_by_scope.Goals as goal

pub of_pins-requires : goal.of_pins-requires
of_pins-requires c = pins_within element_scope is_delayed c.args.scopes c.args.elements.now c.in_ok-pins.pins.items c.deref.result.now c.requires.scopes c.in_ok-pins.ensures c.deref.ensures.value

pub returns-clause-table : goal.returns-clause-table
returns-clause-table c = has_pins (pins_by element_scope is_delayed 0 c.args.elements.now) c.in_ok-pins.pins.items c.deref.result.now c.of_pins.result c.in_ok-pins.ensures c.deref.ensures.value c.of_pins.ensures.each
