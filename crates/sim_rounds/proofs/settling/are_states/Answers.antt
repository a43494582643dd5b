use Rattle.sg_logic.specs.declared.values.Value.TheVariants.{Zero}
use Rattle.sim_rounds.proofs.FittingLaws.{states_turn, states_differ, states_end, empty_when}
use Rattle.sim_rounds.proofs.settling.are_states.Goals as goal

pub loop-number-preserved : goal.loop-number-preserved
loop-number-preserved c =
    states_turn c.args.parts.now c.args.values.now c.args.states.now c.loop-number.left.now c.in-Some.more.now c.deref-element-items.result.now c.loop-number.number c.element-item.result Zero c.deref-element-items.ensures.value c.loop-number-test.true c.requires c.element-item.is
    c.in-Some.ensures.some c.loop-number.invariant

pub returns-in_default : goal.returns-in_default
returns-in_default c =
    states_differ c.args.parts.now c.args.values.now c.args.states.now c.loop-number.left.now c.deref-element-items.result.now c.loop-number.number c.element-item.result Zero c.deref-element-items.ensures.value c.loop-number-test.true c.requires c.element-item.is
    c.in_default.ensures.none c.loop-number.invariant

pub returns : goal.returns
returns c =
    states_end c.is_empty.result c.args.parts.now c.args.values.now c.args.states.now c.loop-number.left.now c.deref-element-items.result.now c.loop-number.number c.deref-element-items.ensures.value c.loop-number-test.false
    (empty_when c.is_empty.result c.loop-number.left.now c.is_empty.ensures) c.loop-number.invariant
