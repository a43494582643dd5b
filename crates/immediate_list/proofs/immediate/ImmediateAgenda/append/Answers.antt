use Rattle.std.proofs.Common.{◌≡◌, ◌≤◌, ◌-◌, ◌∷◌, ◌++◌, [], length, reverse, refl, sym, ap, subst, arith}
use Rattle.std.specs.Vec.{vec_capacity}
use Rattle.sg_model.specs.Agenda.{list_at}
use Rattle.sg_model.specs.Pending.{IsAbove}
use Rattle.immediate_list.proofs.TableLaws.{immediate-changed}
use Rattle.immediate_list.proofs.ImmediateLaws.{in_view, is_settled, settled_change}
use Rattle.immediate_list.proofs.immediate.ImmediateAgenda.append.Goals as goal

pub settle-requires-clause-driver : goal.settle-requires-clause-driver
settle-requires-clause-driver g c = in_view c.self.inside.time c.self.inside.front.standings.items (g.A.Agenda.lists c.self.inside.agenda) c.args.self.now.0 c.args.driver (ap (λ a. a.0) c.self.view_is) c.self.invariant.many c.requires.driver

pub append-requires-clause-driver : goal.append-requires-clause-driver
append-requires-clause-driver g c =
    let s = is_settled c.self.inside.time c.self.inside.front.standings.items c.self.inside.front.standings.items c.settle.new.front.standings.items (g.A.Agenda.lists c.self.inside.agenda) (g.A.Agenda.lists c.settle.new.agenda) c.args.self.now.0 c.args.driver refl (ap (λ a. a.0) c.self.view_is) c.settle.ensures.lists c.settle.ensures.is.many c.requires.driver c.settle.ensures.settled in
    s.driver

pub append-requires-clause-room : goal.append-requires-clause-room
append-requires-clause-room g c =
    let left : g.A.Agenda.spare c.self.inside.agenda - length c.self.inside.front.drivers.items ≡ c.args.self.now.1 = ap (λ a. a.1) c.self.view_is in
    omega (arith, left, c.requires.room, c.settle.ensures.spare)

pub append-requires-clause-later : goal.append-requires-clause-later
append-requires-clause-later g c =
    let s = is_settled c.self.inside.time c.self.inside.front.standings.items c.self.inside.front.standings.items c.settle.new.front.standings.items (g.A.Agenda.lists c.self.inside.agenda) (g.A.Agenda.lists c.settle.new.agenda) c.args.self.now.0 c.args.driver refl (ap (λ a. a.0) c.self.view_is) c.settle.ensures.lists c.settle.ensures.is.many c.requires.driver c.settle.ensures.settled in
    subst (λ xs. IsAbove c.args.time (reverse xs)) (sym s.list) c.requires.later

pub invariant_of-self : goal.invariant_of-self
invariant_of-self g c =
    let left : g.A.Agenda.spare c.self.inside.agenda - length c.self.inside.front.drivers.items ≡ c.args.self.now.1 = ap (λ a. a.1) c.self.view_is in
    let room : length c.settle.new.front.drivers.items ≤ g.A.Agenda.spare c.append.new.self = omega (arith, left, c.requires.room, c.settle.ensures.spare, c.append.ensures.spare) in
    immediate-changed c.settle.new.front.standings.items c.settle.new.front.drivers.items (vec_capacity c.settle.new.front.drivers) (g.A.Agenda.spare c.settle.new.agenda) (g.A.Agenda.spare c.append.new.self) (g.A.Agenda.lists c.settle.new.agenda) (g.A.Agenda.lists c.append.new.self) c.args.driver
    (list_at (g.A.Agenda.lists c.settle.new.agenda) c.args.driver ++ (c.args.time, c.args.value) ∷ []) c.settle.ensures.is c.settle.ensures.settled c.append.ensures.lists room

pub returns-clause-lists : goal.returns-clause-lists
returns-clause-lists g c =
    let s = is_settled c.self.inside.time c.self.inside.front.standings.items c.self.inside.front.standings.items c.settle.new.front.standings.items (g.A.Agenda.lists c.self.inside.agenda) (g.A.Agenda.lists c.settle.new.agenda) c.args.self.now.0 c.args.driver refl (ap (λ a. a.0) c.self.view_is) c.settle.ensures.lists c.settle.ensures.is.many c.requires.driver c.settle.ensures.settled in
    settled_change c.self.inside.time c.settle.new.front.standings.items (g.A.Agenda.lists c.settle.new.agenda) (g.A.Agenda.lists c.append.new.self) c.args.self.now.0 c.args.driver (λ xs. xs ++ (c.args.time, c.args.value) ∷ []) s c.settle.ensures.settled c.append.ensures.lists

pub returns-clause-spare : goal.returns-clause-spare
returns-clause-spare g c =
    let left : g.A.Agenda.spare c.self.inside.agenda - length c.self.inside.front.drivers.items ≡ c.args.self.now.1 = ap (λ a. a.1) c.self.view_is in
    omega (arith, left, c.requires.room, c.settle.ensures.spare, c.append.ensures.spare)
