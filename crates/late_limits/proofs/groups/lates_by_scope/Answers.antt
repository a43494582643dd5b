use Rattle.late_limits.proofs.GroupLaws.{lates-within, lates_are_ok}
use Rattle.late_limits.proofs.groups.lates_by_scope.Goals as goal

pub of_pins-requires : goal.of_pins-requires
of_pins-requires c = lates-within c.args.scopes c.args.elements.now c.in_ok-pins.pins.items c.deref.result.now c.in_ok-pins.ensures c.deref.ensures.value

pub returns-clause-lates : goal.returns-clause-lates
returns-clause-lates c = lates_are_ok c.args.elements.now c.args.scopes c.in_ok-pins.pins.items c.deref.result.now c.of_pins.result c.in_ok-pins.ensures c.deref.ensures.value c.of_pins.ensures.keys c.of_pins.ensures.each
