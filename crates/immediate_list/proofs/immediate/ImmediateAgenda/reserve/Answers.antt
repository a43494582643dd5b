use Rattle.std.proofs.Common.{◌≡◌, ◌-◌, ◌∙◌, length, ap, arith}
use Rattle.std.proofs.lemmas.Result.{on_ok_weaker}
use Rattle.std.specs.Vec.{vec_capacity}
use Rattle.immediate_list.specs.Standings.{lists_of}
use Rattle.immediate_list.proofs.ImmediateLaws.{immediate-roomier}
use Rattle.immediate_list.proofs.immediate.ImmediateAgenda.reserve.Goals as goal

pub invariant_of-self : goal.invariant_of-self
invariant_of-self g c =
    immediate-roomier c.flush.new.front.standings.items c.flush.new.front.drivers.items (vec_capacity c.flush.new.front.drivers) (g.A.Agenda.spare c.flush.new.agenda) (g.A.Agenda.spare c.reserve.new.self) (g.A.Agenda.lists c.flush.new.agenda) (g.A.Agenda.lists c.reserve.new.self)
    c.flush.ensures.is c.reserve.ensures.lists c.reserve.ensures.spare

pub returns-clause-room : goal.returns-clause-room
returns-clause-room g c =
    let none : length c.flush.new.front.drivers.items ≡ 0 = ap length c.flush.ensures.drivers in
    on_ok_weaker c.reserve.result (λ more. omega (arith, more, none)) c.reserve.ensures.room

pub returns-clause-lists : goal.returns-clause-lists
returns-clause-lists g c =
    ap (λ ls. lists_of c.self.inside.time c.flush.new.front.standings.items ls) c.reserve.ensures.lists ∙ (c.flush.ensures.lists c.self.inside.time ∙ ap (λ a. a.0) c.self.view_is)

pub returns-clause-spare : goal.returns-clause-spare
returns-clause-spare g c =
    let none : length c.flush.new.front.drivers.items ≡ 0 = ap length c.flush.ensures.drivers in
    let left : g.A.Agenda.spare c.self.inside.agenda - length c.self.inside.front.drivers.items ≡ c.args.self.now.1 = ap (λ a. a.1) c.self.view_is in
    omega (arith, left, none, c.flush.ensures.spare, c.reserve.ensures.spare)
