use Rattle.std.proofs.Common.{◌≡◌, ◌<◌, ◌≤◌, ◌-◌, length, refl, sym, ap, subst, arith}
use Rattle.std.specs.Vec.{vec_capacity}
use Rattle.sg_model.specs.Pending.{without_last}
use Rattle.sg_model.specs.Agenda.{list_at}
use Rattle.immediate_list.proofs.TableLaws.{immediate-changed}
use Rattle.immediate_list.proofs.ImmediateLaws.{in_view, is_settled, settled_change}
use Rattle.immediate_list.proofs.immediate.ImmediateAgenda.drop_last.Goals as goal

pub settle-requires-clause-driver : goal.settle-requires-clause-driver
settle-requires-clause-driver g c = in_view c.self.inside.time c.self.inside.front.standings.items (g.A.Agenda.lists c.self.inside.agenda) c.args.self.now.0 c.args.driver (ap (λ a. a.0) c.self.view_is) c.self.invariant.many c.requires.driver

pub drop_last-requires-clause-driver : goal.drop_last-requires-clause-driver
drop_last-requires-clause-driver g c =
    let s = is_settled c.self.inside.time c.self.inside.front.standings.items c.self.inside.front.standings.items c.settle.new.front.standings.items (g.A.Agenda.lists c.self.inside.agenda) (g.A.Agenda.lists c.settle.new.agenda) c.args.self.now.0 c.args.driver refl (ap (λ a. a.0) c.self.view_is) c.settle.ensures.lists c.settle.ensures.is.many c.requires.driver c.settle.ensures.settled in
    s.driver

pub drop_last-requires-clause-some : goal.drop_last-requires-clause-some
drop_last-requires-clause-some g c =
    let s = is_settled c.self.inside.time c.self.inside.front.standings.items c.self.inside.front.standings.items c.settle.new.front.standings.items (g.A.Agenda.lists c.self.inside.agenda) (g.A.Agenda.lists c.settle.new.agenda) c.args.self.now.0 c.args.driver refl (ap (λ a. a.0) c.self.view_is) c.settle.ensures.lists c.settle.ensures.is.many c.requires.driver c.settle.ensures.settled in
    subst (λ xs. 0 < length xs) (sym s.list) c.requires.some

pub invariant_of-self : goal.invariant_of-self
invariant_of-self g c =
    let before = c.settle.ensures.is.spare in
    let room : length c.settle.new.front.drivers.items ≤ g.A.Agenda.spare c.drop_last.new.self = omega (arith, before, c.drop_last.ensures.spare) in
    immediate-changed c.settle.new.front.standings.items c.settle.new.front.drivers.items (vec_capacity c.settle.new.front.drivers) (g.A.Agenda.spare c.settle.new.agenda) (g.A.Agenda.spare c.drop_last.new.self) (g.A.Agenda.lists c.settle.new.agenda) (g.A.Agenda.lists c.drop_last.new.self) c.args.driver
    (without_last (list_at (g.A.Agenda.lists c.settle.new.agenda) c.args.driver)) c.settle.ensures.is c.settle.ensures.settled c.drop_last.ensures.lists room

pub returns-clause-lists : goal.returns-clause-lists
returns-clause-lists g c =
    let s = is_settled c.self.inside.time c.self.inside.front.standings.items c.self.inside.front.standings.items c.settle.new.front.standings.items (g.A.Agenda.lists c.self.inside.agenda) (g.A.Agenda.lists c.settle.new.agenda) c.args.self.now.0 c.args.driver refl (ap (λ a. a.0) c.self.view_is) c.settle.ensures.lists c.settle.ensures.is.many c.requires.driver c.settle.ensures.settled in
    settled_change c.self.inside.time c.settle.new.front.standings.items (g.A.Agenda.lists c.settle.new.agenda) (g.A.Agenda.lists c.drop_last.new.self) c.args.self.now.0 c.args.driver (λ xs. without_last xs) s c.settle.ensures.settled c.drop_last.ensures.lists

pub returns-clause-spare : goal.returns-clause-spare
returns-clause-spare g c =
    let left : g.A.Agenda.spare c.self.inside.agenda - length c.self.inside.front.drivers.items ≡ c.args.self.now.1 = ap (λ a. a.1) c.self.view_is in
    omega (arith, left, c.settle.ensures.spare, c.drop_last.ensures.spare)
