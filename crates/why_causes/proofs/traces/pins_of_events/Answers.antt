use Rattle.why_causes.proofs.TraceLaws.{pins-more, pins-all}
use Rattle.why_causes.proofs.traces.pins_of_events.Goals as goal

pub loop-number-preserved : goal.loop-number-preserved
loop-number-preserved c = pins-more c.args.events.now c.loop-number.number _ c.loop-number.pins.items c.push.new.self.items c.loop-number-test.true c.loop-number.invariant c.in_ok-push.ensures.items

pub returns : goal.returns
returns c = pins-all c.args.events.now c.loop-number.number c.loop-number.pins.items c.loop-number-test.false c.loop-number.invariant
