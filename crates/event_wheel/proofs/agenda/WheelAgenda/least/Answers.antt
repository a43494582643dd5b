-- The first place of the tree has the least time.
use Rattle.event_wheel.proofs.AgendaLaws.{promised_some, promised_none, promised_below}
use Rattle.event_wheel.proofs.agenda.WheelAgenda.least.Goals as goal

pub returns-clause-some : goal.returns-clause-some
returns-clause-some c =
    promised_some c.self.inside.chains.nodes c.self.inside.chains.buckets.items c.self.inside.chains.drivers.items c.self.inside.chains.near.items c.self.inside.chains.firsts.items c.args.self.now c.index.result.now c.self.invariant c.self.view_is c.index.ensures

pub returns-clause-none : goal.returns-clause-none
returns-clause-none c =
    promised_none c.self.inside.chains.nodes c.self.inside.chains.buckets.items c.self.inside.chains.drivers.items c.self.inside.chains.near.items c.self.inside.chains.firsts.items c.args.self.now c.index.result.now c.self.invariant c.self.view_is c.index.ensures

pub returns-clause-below : goal.returns-clause-below
returns-clause-below c =
    promised_below c.self.inside.chains.nodes c.self.inside.chains.buckets.items c.self.inside.chains.drivers.items c.self.inside.chains.near.items c.self.inside.chains.firsts.items c.args.self.now c.index.result.now c.self.invariant c.self.view_is c.index.ensures
