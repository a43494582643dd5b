use Rattle.written_text.proofs.DelayLaws.{each_more, each_end}
use Rattle.written_text.proofs.delays.push_each.Goals as goal

pub loop-transition-preserved : goal.loop-transition-preserved
loop-transition-preserved c =
    each_more c.args.delays.now c.args.limits.now c.loop-transition.transition c.index-limits-transition.result c.limits_of.result c.args.text.now.items c.loop-transition.text.items c.push_delay.new.text.items
    c.told-delays c.told-limits c.loop-transition-test.true c.limits_of.ensures c.loop-transition.invariant c.in_ok-push_delay.ensures

pub returns : goal.returns
returns c = each_end c.args.delays.now c.args.limits.now c.loop-transition.transition c.args.text.now.items c.loop-transition.text.items c.told-delays c.told-limits c.loop-transition-test.false c.loop-transition.invariant
