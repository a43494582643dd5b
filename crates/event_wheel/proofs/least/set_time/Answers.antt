-- What stands above the place is set, or is right already.
use Rattle.std.proofs.Common.{refl}
use Rattle.event_wheel.proofs.LeastLaws.{set_step, set_kept}
use Rattle.event_wheel.proofs.least.set_time.Goals as goal

pub returns-then-eq-2 : goal.returns-then-eq-2
returns-then-eq-2 c =
    set_kept _ _ _ _ _ _ _ _ c.loop-place.invariant refl c.lesser-least.ensures c.if-eq-2.ensures

pub loop-place-preserved : goal.loop-place-preserved
loop-place-preserved c =
    set_step _ _ _ _ _ _ _ _ c.loop-place.invariant c.loop-place-test.true refl c.lesser-least.ensures
