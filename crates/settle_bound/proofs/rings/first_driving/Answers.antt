use Rattle.settle_bound.proofs.RingLaws.{drives-none}
use Rattle.settle_bound.proofs.rings.first_driving.Goals as goal

pub returns-clause-drives : goal.returns-clause-drives
returns-clause-drives c = absurd (drives-none c.args.links.now c.args.hops.now c.args.net c.loop-place.place c.loop-place-test.false c.loop-place.invariant c.requires.some)
