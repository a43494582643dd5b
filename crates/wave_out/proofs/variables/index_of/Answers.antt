use Rattle.sg_circuit.proofs.FanLaws.{pins_fan_ok}
use Rattle.wave_out.proofs.BitLaws.{index_within}
use Rattle.wave_out.proofs.variables.index_of.Goals as goal

pub of_pins-requires : goal.of_pins-requires
of_pins-requires c = index_within c.args.nets c.args.variables.now c.push_pins.new.pins.items c.deref.result.now c.requires.nets c.in_ok-push_pins.ensures c.deref.ensures.value

pub returns-clause-variables : goal.returns-clause-variables
returns-clause-variables c = pins_fan_ok c.push_pins.new.pins.items c.deref.result.now c.args.variables.now c.of_pins.result c.deref.ensures.value c.in_ok-push_pins.ensures c.of_pins.ensures.each
