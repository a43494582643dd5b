-- The nodes stay.
use Rattle.event_wheel.proofs.AgendaLaws.{chained-slots}
use Rattle.event_wheel.proofs.LeastLaws.{firsts-slots}
use Rattle.event_wheel.proofs.agenda.WheelAgenda.reserve.Goals as goal

pub invariant_of-self : goal.invariant_of-self
invariant_of-self c = record {
  few = c.self.invariant.few;
  chained = chained-slots c.self.inside.chains.nodes c.reserve.new.self c.self.inside.chains.buckets.items c.self.inside.chains.drivers.items c.self.inside.chains.near.items c.reserve.ensures.slots c.self.invariant.chained;
  noted = firsts-slots c.self.inside.chains.nodes c.reserve.new.self c.self.inside.chains.buckets.items c.self.inside.chains.firsts.items c.reserve.ensures.slots c.self.invariant.noted;
}

pub invariant_of-self-2 : goal.invariant_of-self-2
invariant_of-self-2 c = record {
  few = c.self.invariant.few;
  chained = chained-slots c.self.inside.chains.nodes c.reserve.new.self c.self.inside.chains.buckets.items c.self.inside.chains.drivers.items c.self.inside.chains.near.items c.reserve.ensures.slots c.self.invariant.chained;
  noted = firsts-slots c.self.inside.chains.nodes c.reserve.new.self c.self.inside.chains.buckets.items c.self.inside.chains.firsts.items c.reserve.ensures.slots c.self.invariant.noted;
}
