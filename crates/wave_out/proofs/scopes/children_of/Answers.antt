use Rattle.std.proofs.Common.{arith}
use Rattle.wave_out.proofs.ScopeLaws.{pins_are_within, children_made}
use Rattle.wave_out.proofs.scopes.children_of.Goals as goal

pub of_pins-requires : goal.of_pins-requires
of_pins-requires c = pins_are_within c.parts.result.now c.args.circuit.now c.deref.result.now c.in_ok-pins.pins.items c.deref-2.result.now c.len.result c.parts.ensures.seen c.parts.ensures.closed c.deref.ensures.value c.in_ok-pins.ensures c.deref-2.ensures.value (omega (arith, c.len.ensures, c.parts.result.now.scopes.ok))

pub returns-clause-made : goal.returns-clause-made
returns-clause-made c = children_made c.parts.result.now c.args.circuit.now c.deref.result.now c.in_ok-pins.pins.items c.deref-2.result.now c.len.result c.of_pins.result c.parts.ensures.seen c.deref.ensures.value c.in_ok-pins.ensures c.deref-2.ensures.value (omega (arith, c.len.ensures, c.parts.result.now.scopes.ok)) c.of_pins.ensures.each c.of_pins.ensures.keys
