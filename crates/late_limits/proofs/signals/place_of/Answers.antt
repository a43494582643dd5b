use Rattle.std.proofs.Common.{refl}
use Rattle.late_limits.proofs.NumberLaws.{place-is, place-other, place-none}
use Rattle.late_limits.proofs.signals.place_of.Goals as goal

pub returns-in_default : goal.returns-in_default
returns-in_default c = place-none c.args.nets.now c.args.places.now c.args.net c.requires c.in_default.ensures.lookup.3

pub returns-then-is_at : goal.returns-then-is_at
returns-then-is_at c = place-is c.args.nets.now c.args.places.now c.args.net c.in-Some.place.now c.requires (c.in-Some.ensures.lookup.3.1 0) (c.if-is_at.ensures.0 refl)

pub returns-else-is_at : goal.returns-else-is_at
returns-else-is_at c = place-other c.args.nets.now c.args.places.now c.args.net c.in-Some.place.now c.requires (c.in-Some.ensures.lookup.3.1 0) (λ h. (let f = c.if-is_at.ensures.1 h in cc))
