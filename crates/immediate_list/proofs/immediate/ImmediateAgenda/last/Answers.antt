use Rattle.std.proofs.Common.{◌<◌, ◌∙◌, reverse, sym, ap, subst}
use Rattle.sg_model.specs.Agenda.{Rises}
use Rattle.sg_model.specs.Pending.{last_of}
use Rattle.immediate_list.proofs.ImmediateLaws.{in_view, in_lists, last_nothing, last_listed, last_on_agenda}
use Rattle.immediate_list.proofs.immediate.ImmediateAgenda.last.Goals as goal

pub index-requires : goal.index-requires
index-requires g c =
    subst (λ n. c.args.driver < n) (sym c.self.inside.front.standings.ok.0) (in_view c.self.inside.time c.self.inside.front.standings.items (g.A.Agenda.lists c.self.inside.agenda) c.args.self.now.0 c.args.driver (ap (λ a. a.0) c.self.view_is) c.self.invariant.many c.requires.driver)

pub last-requires : goal.last-requires
last-requires g c = record { driver = in_lists c.self.inside.time c.self.inside.front.standings.items (g.A.Agenda.lists c.self.inside.agenda) c.args.self.now.0 c.args.driver (ap (λ a. a.0) c.self.view_is) c.self.invariant.many c.requires.driver }

pub returns-in-Nothing-clause-last : goal.returns-in-Nothing-clause-last
returns-in-Nothing-clause-last g c =
    (last_nothing c.self.inside.time c.self.inside.front.standings.items (g.A.Agenda.lists c.self.inside.agenda) c.args.self.now.0 c.args.driver _ (ap (λ a. a.0) c.self.view_is) c.self.invariant.many c.requires.driver (sym c.index.ensures ∙ c.in-Nothing.is)).0

pub returns-in-Nothing-clause-rising : goal.returns-in-Nothing-clause-rising
returns-in-Nothing-clause-rising g c =
    (last_nothing c.self.inside.time c.self.inside.front.standings.items (g.A.Agenda.lists c.self.inside.agenda) c.args.self.now.0 c.args.driver _ (ap (λ a. a.0) c.self.view_is) c.self.invariant.many c.requires.driver (sym c.index.ensures ∙ c.in-Nothing.is)).1

pub returns-in-Listed-clause-last : goal.returns-in-Listed-clause-last
returns-in-Listed-clause-last g c =
    (last_listed c.self.inside.time c.self.inside.front.standings.items (g.A.Agenda.lists c.self.inside.agenda) c.args.self.now.0 c.args.driver _ c.in-Listed.value (ap (λ a. a.0) c.self.view_is) c.self.invariant.many c.requires.driver (sym c.index.ensures ∙ c.in-Listed.is)).0

pub returns-in-Listed-clause-rising : goal.returns-in-Listed-clause-rising
returns-in-Listed-clause-rising g c =
    (last_listed c.self.inside.time c.self.inside.front.standings.items (g.A.Agenda.lists c.self.inside.agenda) c.args.self.now.0 c.args.driver _ c.in-Listed.value (ap (λ a. a.0) c.self.view_is) c.self.invariant.many c.requires.driver (sym c.index.ensures ∙ c.in-Listed.is)).1

pub returns-in-OnAgenda-clause-last : goal.returns-in-OnAgenda-clause-last
returns-in-OnAgenda-clause-last g c =
    c.last.ensures.last ∙ ap last_of (sym (last_on_agenda c.self.inside.time c.self.inside.front.standings.items (g.A.Agenda.lists c.self.inside.agenda) c.args.self.now.0 c.args.driver _ (ap (λ a. a.0) c.self.view_is) c.self.invariant.many c.requires.driver (sym c.index.ensures ∙ c.in-OnAgenda.is)))

pub returns-in-OnAgenda-clause-rising : goal.returns-in-OnAgenda-clause-rising
returns-in-OnAgenda-clause-rising g c =
    subst (λ xs. Rises (reverse xs)) (sym (last_on_agenda c.self.inside.time c.self.inside.front.standings.items (g.A.Agenda.lists c.self.inside.agenda) c.args.self.now.0 c.args.driver _ (ap (λ a. a.0) c.self.view_is) c.self.invariant.many c.requires.driver (sym c.index.ensures ∙ c.in-OnAgenda.is))) c.last.ensures.rising
