-- One transition after another.
use Rattle.std.proofs.Common.{refl}
use Rattle.written_faults.proofs.SameLaws.{differs-at, all-same, same-next, at-any}
use Rattle.written_faults.proofs.ambiguities.are_same_each.Goals as goal

pub returns-then-not-are_same_at : goal.returns-then-not-are_same_at
returns-then-not-are_same_at c =
    differs-at c.args.delays.now c.args.limits.now c.args.other_delays.now c.args.other_limits.now c.loop-transition.transition c.index-limits-transition.result c.index-other_limits-transition.result
    (record { delays = c.told-delays; limits = c.told-limits; others = c.told-other_delays; other_limits = c.told-other_limits }) c.loop-transition-test.true c.if-not-are_same_at.ensures.1

pub loop-transition-preserved : goal.loop-transition-preserved
loop-transition-preserved c =
    same-next c.args.delays.now c.args.limits.now c.args.other_delays.now c.args.other_limits.now c.loop-transition.transition
    (at-any c.args.delays.now c.args.limits.now c.args.other_delays.now c.args.other_limits.now c.loop-transition.transition c.index-limits-transition.result c.index-other_limits-transition.result
    (record { delays = c.told-delays; limits = c.told-limits; others = c.told-other_delays; other_limits = c.told-other_limits }) c.loop-transition-test.true (c.if-not-are_same_at.ensures.0 refl))
    c.loop-transition.invariant

pub returns : goal.returns
returns c = (
  λ t. all-same c.args.delays.now c.args.limits.now c.args.other_delays.now c.args.other_limits.now c.loop-transition.transition
      (record { delays = c.told-delays; limits = c.told-limits; others = c.told-other_delays; other_limits = c.told-other_limits }) c.loop-transition-test.false c.loop-transition.invariant,
  λ e. refl,
)
