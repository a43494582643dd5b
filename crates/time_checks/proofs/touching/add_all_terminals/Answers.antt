use Rattle.time_checks.specs.declared.adjusted.AdjustedCheck.{AdjustedCheck}
use Rattle.time_checks.specs.AdjustedSeen.{adjusted_seen}
use Rattle.sg_circuit.proofs.PinLaws.{pins_more}
use Rattle.time_checks.specs.Within.{terminals}
use Rattle.time_checks.proofs.touching.add_all_terminals.Goals as goal

pub loop-number-preserved : goal.loop-number-preserved
loop-number-preserved c = record {
  pins = pins_more (λ (k : AdjustedCheck). terminals (adjusted_seen k)) c.args.checks.now c.loop-number.number c.index-checks-number.result c.loop-number.pins.items c.add_terminals.new.pins.items c.loop-number-test.true c.loop-number.invariant.pins c.index-checks-number.is c.in_ok-add_terminals.ensures.pins;
  fresh = c.in_ok-add_terminals.ensures.fresh;
}
