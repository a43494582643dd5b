use Rattle.std.proofs.Common.{◌≡◌, ◌<◌, ◌-◌, length, sym, ap, subst, arith}
use Rattle.std.specs.Vec.{vec_capacity}
use Rattle.immediate_list.specs.Standings.{IsImmediate}
use Rattle.immediate_list.proofs.TableLaws.{immediate-listed}
use Rattle.immediate_list.proofs.ImmediateLaws.{in_view, in_lists, known_nothing, placed_listed, placed_same}
use Rattle.immediate_list.proofs.immediate.Immediate.place_at_once.Goals as goal

pub index-requires : goal.index-requires
index-requires g c =
    subst (λ n. c.args.driver < n) (sym c.self.inside.front.standings.ok.0) (in_view c.self.inside.time c.self.inside.front.standings.items (g.A.Agenda.lists c.self.inside.agenda) c.args.self.now.0 c.args.driver (ap (λ a. a.0) c.self.view_is) c.self.invariant.many c.requires.driver)

pub enlist-requires-clause-driver : goal.enlist-requires-clause-driver
enlist-requires-clause-driver g c = in_view c.self.inside.time c.self.inside.front.standings.items (g.A.Agenda.lists c.self.inside.agenda) c.args.self.now.0 c.args.driver (ap (λ a. a.0) c.self.view_is) c.self.invariant.many c.requires.driver

pub invariant_of-self : goal.invariant_of-self
invariant_of-self g c =
    let ss = c.self.inside.front.standings.items in
    let ls = g.A.Agenda.lists c.self.inside.agenda in
    let ds = c.self.inside.front.drivers in
    let e = ap (λ a. a.0) c.self.view_is in
    let within = in_view c.self.inside.time ss ls c.args.self.now.0 c.args.driver e c.self.invariant.many c.requires.driver in
    let left : g.A.Agenda.spare c.self.inside.agenda - length ds.items ≡ c.args.self.now.1 = ap (λ a. a.1) c.self.view_is in
    let room : length ds.items < g.A.Agenda.spare c.self.inside.agenda = omega (arith, left, c.requires.room) in
    subst (λ xs. IsImmediate xs c.enlist.new.front.drivers.items (vec_capacity c.enlist.new.front.drivers) (g.A.Agenda.spare c.self.inside.agenda) ls) (sym c.enlist.ensures.standings)
    (immediate-listed ss ds.items c.enlist.new.front.drivers.items (vec_capacity ds) (vec_capacity c.enlist.new.front.drivers) (g.A.Agenda.spare c.self.inside.agenda) ls c.args.driver c.args.value c.self.invariant
    (in_lists c.self.inside.time ss ls c.args.self.now.0 c.args.driver e c.self.invariant.many c.requires.driver)
    (known_nothing ss c.args.driver c.index.result.now _ c.is_nothing.result within c.index.ensures c.is_nothing.ensures c.if-not-is_nothing.false) room c.enlist.ensures.capacity c.enlist.ensures.items)

pub returns-then-not-same-clause-placed : goal.returns-then-not-same-clause-placed
returns-then-not-same-clause-placed g c =
    let ss = c.self.inside.front.standings.items in
    let ls = g.A.Agenda.lists c.self.inside.agenda in
    let e = ap (λ a. a.0) c.self.view_is in
    let within = in_view c.self.inside.time ss ls c.args.self.now.0 c.args.driver e c.self.invariant.many c.requires.driver in
    placed_listed c.self.inside.time c.args.now ss c.enlist.new.front.standings.items ls c.args.self.now.0 c.args.driver c.args.present c.args.value c.same.result e c.self.invariant.many c.requires.driver
    (known_nothing ss c.args.driver c.index.result.now _ c.is_nothing.result within c.index.ensures c.is_nothing.ensures c.if-not-is_nothing.false) c.enlist.ensures.standings c.if-self-now.false c.same.ensures c.if-not-same.true

pub returns-else-not-same-clause-placed : goal.returns-else-not-same-clause-placed
returns-else-not-same-clause-placed g c =
    let ss = c.self.inside.front.standings.items in
    let ls = g.A.Agenda.lists c.self.inside.agenda in
    let e = ap (λ a. a.0) c.self.view_is in
    let within = in_view c.self.inside.time ss ls c.args.self.now.0 c.args.driver e c.self.invariant.many c.requires.driver in
    placed_same c.self.inside.time c.args.now ss ls c.args.self.now.0 c.args.driver c.args.present c.args.value c.same.result e c.self.invariant.many c.requires.driver
    (known_nothing ss c.args.driver c.index.result.now _ c.is_nothing.result within c.index.ensures c.is_nothing.ensures c.if-not-is_nothing.false) c.same.ensures c.if-not-same.false
