use Rattle.std.specs.Prelude.{zip}
use Rattle.late_limits.proofs.GroupLaws.{windows-within, windows_are_ok}
use Rattle.late_limits.proofs.groups.windows_by_scope.Goals as goal

pub of_pins-requires : goal.of_pins-requires
of_pins-requires c = windows-within c.args.scopes (zip c.args.checks.now c.args.timings.now) c.in_ok-pins.pins.items c.deref.result.now c.in_ok-pins.ensures c.deref.ensures.value

pub returns-clause-windows : goal.returns-clause-windows
returns-clause-windows c =
    windows_are_ok c.args.checks.now c.args.timings.now c.args.scopes c.in_ok-pins.pins.items c.deref.result.now c.of_pins.result c.in_ok-pins.ensures c.deref.ensures.value c.of_pins.ensures.keys c.of_pins.ensures.each
