use Rattle.std.proofs.Common.{◌≡◌, ◌<◌, ◌∙◌, ℕ, length, reverse, sym, ap, subst, arith}
use Rattle.std.specs.Vec.{vec_capacity}
use Rattle.sg_model.specs.Pending.{IsAbove}
use Rattle.immediate_list.specs.Standings.{lists_of}
use Rattle.immediate_list.proofs.TableLaws.{all_on_agenda, immediate-kept, immediate-put, unlisted_bare, unlisted_many}
use Rattle.immediate_list.proofs.flushing.flush.Goals as goal

pub append-requires-clause-driver : goal.append-requires-clause-driver
append-requires-clause-driver g c = subst (λ n. c.in-Some.driver < n) c.loop-driver.invariant.is.many c.in-Some.ensures.some.driver

pub append-requires-clause-room : goal.append-requires-clause-room
append-requires-clause-room g c = omega (arith, c.loop-driver.invariant.is.spare, c.in-Some.ensures.some.fewer)

pub append-requires-clause-later : goal.append-requires-clause-later
append-requires-clause-later g c =
    subst (λ xs. IsAbove c.args.time (reverse xs))
    (sym (unlisted_bare _ _ _ _ _ (vec_capacity c.loop-driver.front.drivers) (g.A.Agenda.spare c.loop-driver.agenda) (g.A.Agenda.lists c.loop-driver.agenda) (c.in-Some.driver, c.in-Some.value) c.loop-driver.invariant.is c.in-Some.ensures.some)) tt

pub loop-driver-preserved : goal.loop-driver-preserved
loop-driver-preserved g c =
    let lists = g.A.Agenda.lists in
    let spare = g.A.Agenda.spare in
    let i = c.loop-driver.invariant in
    let step = immediate-put c.args.time c.loop-driver.front.standings.items c.unlist.new.front.standings.items c.loop-driver.front.drivers.items c.unlist.new.front.drivers.items (vec_capacity c.loop-driver.front.drivers) (vec_capacity c.unlist.new.front.drivers) (spare c.loop-driver.agenda) (spare c.append.new.self) (lists c.loop-driver.agenda) (lists c.append.new.self)
    (c.in-Some.driver, c.in-Some.value) i.is c.in-Some.ensures.some c.in-Some.ensures.listed c.in-Some.ensures.capacity c.append.ensures.lists c.append.ensures.spare in
    record {
      is = step.0;
      lists = step.1 ∙ i.lists;
      spare = omega (arith, i.spare, c.append.ensures.spare, c.in-Some.ensures.some.fewer);
      many = unlisted_many _ _ _ _ _ _ c.in-Some.ensures.some ∙ i.many;
    }

pub returns-clause-is : goal.returns-clause-is
returns-clause-is g c =
    immediate-kept c.loop-driver.front.standings.items c.unlist.new.front.standings.items c.loop-driver.front.drivers.items c.unlist.new.front.drivers.items (vec_capacity c.loop-driver.front.drivers) (vec_capacity c.unlist.new.front.drivers) (g.A.Agenda.spare c.loop-driver.agenda) (g.A.Agenda.lists c.loop-driver.agenda)
    c.loop-driver.invariant.is c.in_default.ensures.none.0 c.in_default.ensures.none.1 c.in_default.ensures.none.2 c.in_default.ensures.capacity

pub returns-clause-lists : goal.returns-clause-lists
returns-clause-lists g c = λ other.
    (let ls = g.A.Agenda.lists c.loop-driver.agenda in
    let ss = c.loop-driver.front.standings.items in
    let i = c.loop-driver.invariant in
    let none = c.in_default.ensures.none in
    let on = λ (t : ℕ). all_on_agenda t ss c.loop-driver.front.drivers.items (vec_capacity c.loop-driver.front.drivers) (g.A.Agenda.spare c.loop-driver.agenda) ls i.is none.0 in
    ap (λ xs. lists_of other xs ls) none.2 ∙ (on other ∙ (sym (on c.args.time) ∙ i.lists)))

pub returns-clause-spare : goal.returns-clause-spare
returns-clause-spare g c =
    let none : length c.loop-driver.front.drivers.items ≡ 0 = ap length c.in_default.ensures.none.0 in
    omega (arith, c.loop-driver.invariant.spare, none)

pub returns-clause-many : goal.returns-clause-many
returns-clause-many g c = ap length c.in_default.ensures.none.2 ∙ c.loop-driver.invariant.many
