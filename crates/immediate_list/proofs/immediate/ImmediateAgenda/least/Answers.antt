use Rattle.std.proofs.Common.{◌≡◌, ◌∙◌, [], sym, ap, subst}
use Rattle.std.specs.Option.{IfSome, IfNone}
use Rattle.std.specs.Vec.{vec_capacity}
use Rattle.sg_model.specs.Agenda.{AllEmpty, IsLeastTime}
use Rattle.immediate_list.specs.Standings.{lists_of}
use Rattle.immediate_list.proofs.TableLaws.{all_on_agenda}
use Rattle.immediate_list.proofs.ImmediateLaws.{immediate-roomier, least_listed, none_of, some_of}
use Rattle.immediate_list.proofs.immediate.ImmediateAgenda.least.Goals as goal

pub invariant_of-self : goal.invariant_of-self
invariant_of-self g c =
    immediate-roomier c.self.inside.front.standings.items c.self.inside.front.drivers.items (vec_capacity c.self.inside.front.drivers) (g.A.Agenda.spare c.self.inside.agenda) (g.A.Agenda.spare c.least-least.new.self) (g.A.Agenda.lists c.self.inside.agenda) (g.A.Agenda.lists c.least-least.new.self)
    c.self.invariant c.least-least.ensures.lists c.least-least.ensures.spare

pub returns-then-is_empty-clause-some : goal.returns-then-is_empty-clause-some
returns-then-is_empty-clause-some g c =
    let inside = c.self.inside in
    let none : inside.front.drivers.items ≡ [] = none_of inside.front.drivers.items _ c.is_empty.result inside.front.drivers.ok.0 c.is_empty.ensures c.if-is_empty.true in
    let whole = sym (all_on_agenda inside.time inside.front.standings.items inside.front.drivers.items (vec_capacity inside.front.drivers) (g.A.Agenda.spare inside.agenda) (g.A.Agenda.lists inside.agenda) c.self.invariant none) ∙ ap (λ a. a.0) c.self.view_is in
    subst (λ ls. IfSome c.least-least.result (λ time. IsLeastTime ls time)) whole c.least-least.ensures.some

pub returns-then-is_empty-clause-none : goal.returns-then-is_empty-clause-none
returns-then-is_empty-clause-none g c =
    let inside = c.self.inside in
    let none : inside.front.drivers.items ≡ [] = none_of inside.front.drivers.items _ c.is_empty.result inside.front.drivers.ok.0 c.is_empty.ensures c.if-is_empty.true in
    let whole = sym (all_on_agenda inside.time inside.front.standings.items inside.front.drivers.items (vec_capacity inside.front.drivers) (g.A.Agenda.spare inside.agenda) (g.A.Agenda.lists inside.agenda) c.self.invariant none) ∙ ap (λ a. a.0) c.self.view_is in
    subst (λ ls. IfNone c.least-least.result (AllEmpty ls)) whole c.least-least.ensures.none

pub returns-clause-some : goal.returns-clause-some
returns-clause-some g c =
    let inside = c.self.inside in
    subst (λ ls. IsLeastTime ls c.earlier.result) (ap (λ a. a.0) c.self.view_is)
    (subst (λ n. IsLeastTime (lists_of inside.time inside.front.standings.items (g.A.Agenda.lists inside.agenda)) n) (sym c.earlier.ensures)
    (least_listed inside.time inside.front.standings.items inside.front.drivers.items (vec_capacity inside.front.drivers) (g.A.Agenda.spare inside.agenda) (g.A.Agenda.lists inside.agenda) c.least-least.result c.self.invariant
    (some_of inside.front.drivers.items _ c.is_empty.result inside.front.drivers.ok.0 c.is_empty.ensures c.if-is_empty.false) c.least-least.ensures.some c.least-least.ensures.none))
