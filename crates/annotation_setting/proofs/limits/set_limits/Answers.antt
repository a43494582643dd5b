-- The limits of one check more.
use Rattle.annotation_setting.proofs.LimitLaws.{check-within, limits-more, small-within, two-more}
use Rattle.annotation_setting.proofs.limits.set_limits.Goals as goal

pub set_others-requires-clause-check : goal.set_others-requires-clause-check
set_others-requires-clause-check c = check-within c.loop-check.opened.circuit c.args.opened.now.circuit c.args.limits.now c.loop-check.check c.loop-check.invariant.circuit c.loop-check-test.true c.requires.each_check

pub set_others-requires-clause-small : goal.set_others-requires-clause-small
set_others-requires-clause-small c = small-within c.loop-check.opened.circuit c.args.opened.now.circuit c.args.limits.now c.loop-check.check _ c.loop-check.invariant.circuit c.loop-check-test.true c.requires.each_check c.requires.small

pub loop-check-preserved : goal.loop-check-preserved
loop-check-preserved c = record {
  circuit = limits-more c.set_others.new.opened c.loop-check.opened c.args.opened.now.circuit c.args.limits.now c.loop-check.check _ c.loop-check.invariant.circuit c.loop-check-test.true c.requires.each_check c.set_others.ensures.set;
  two = two-more c.loop-check.opened.circuit c.args.opened.now.circuit c.args.limits.now c.loop-check.check c.loop-check.invariant.circuit c.loop-check-test.true c.requires.each_check c.loop-check.invariant.two c.set_others.ensures.two;
}
