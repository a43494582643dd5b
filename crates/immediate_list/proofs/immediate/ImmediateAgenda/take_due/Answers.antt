use Rattle.std.proofs.Common.{◌∙◌, sym, ap, subst}
use Rattle.std.specs.Vec.{vec_capacity}
use Rattle.sg_model.specs.Agenda.{NothingBelow, IsTaken}
use Rattle.immediate_list.specs.Standings.{lists_of}
use Rattle.immediate_list.proofs.TableLaws.{all_on_agenda, immediate-kept, taken_lists}
use Rattle.immediate_list.proofs.ImmediateLaws.{immediate-due, due_some, due_none}
use Rattle.immediate_list.proofs.immediate.ImmediateAgenda.take_due.Goals as goal

pub take_due-requires : goal.take_due-requires
take_due-requires g c =
    let front = c.turn_to.new.front in
    let ls = g.A.Agenda.lists c.turn_to.new.agenda in
    let on = all_on_agenda c.args.now front.standings.items front.drivers.items (vec_capacity front.drivers) (g.A.Agenda.spare c.turn_to.new.agenda) ls c.turn_to.ensures.is c.in-None.ensures.none.0 in
    subst (λ xs. NothingBelow c.args.now xs) (sym (c.turn_to.ensures.lists ∙ ap (λ a. a.0) c.self.view_is) ∙ on) c.requires

pub returns-in-Some-clause-some : goal.returns-in-Some-clause-some
returns-in-Some-clause-some g c =
    let front = c.turn_to.new.front in
    let after = c.unlist.new.front in
    let ls = g.A.Agenda.lists c.turn_to.new.agenda in
    subst (λ t. IsTaken c.args.now c.args.self.now.0 (lists_of t after.standings.items ls) c.in-Some.due) (sym c.turn_to.ensures.time)
    (subst (λ v. IsTaken c.args.now v (lists_of c.args.now after.standings.items ls) c.in-Some.due) (c.turn_to.ensures.lists ∙ ap (λ a. a.0) c.self.view_is)
    (taken_lists c.args.now front.standings.items after.standings.items front.drivers.items after.drivers.items (vec_capacity front.drivers) (g.A.Agenda.spare c.turn_to.new.agenda) ls c.in-Some.due c.turn_to.ensures.is c.in-Some.ensures.some))

pub returns-in-None-clause-some : goal.returns-in-None-clause-some
returns-in-None-clause-some g c =
    let front = c.turn_to.new.front in
    let after = c.unlist.new.front in
    let spare = g.A.Agenda.spare in
    let ls = g.A.Agenda.lists c.turn_to.new.agenda in
    let left = g.A.Agenda.lists c.take_due.new.self in
    let none = c.in-None.ensures.none in
    let on = all_on_agenda c.args.now front.standings.items front.drivers.items (vec_capacity front.drivers) (spare c.turn_to.new.agenda) ls c.turn_to.ensures.is none.0 in
    let kept = immediate-kept front.standings.items after.standings.items front.drivers.items after.drivers.items (vec_capacity front.drivers) (vec_capacity after.drivers) (spare c.turn_to.new.agenda) ls c.turn_to.ensures.is none.0 none.1 none.2 c.in-None.ensures.capacity in
    let is = immediate-due c.args.now after.standings.items after.drivers.items (vec_capacity after.drivers) (spare c.turn_to.new.agenda) (spare c.take_due.new.self) ls left c.take_due.result kept c.take_due.ensures.spare c.take_due.ensures.some c.take_due.ensures.none in
    due_some c.args.now ls left c.args.self.now.0 (lists_of c.turn_to.new.time after.standings.items left) c.take_due.result (sym (c.turn_to.ensures.lists ∙ ap (λ a. a.0) c.self.view_is) ∙ on)
    (all_on_agenda c.turn_to.new.time after.standings.items after.drivers.items (vec_capacity after.drivers) (spare c.take_due.new.self) left is none.1) c.take_due.ensures.some

pub returns-in-None-clause-none : goal.returns-in-None-clause-none
returns-in-None-clause-none g c =
    let front = c.turn_to.new.front in
    let after = c.unlist.new.front in
    let spare = g.A.Agenda.spare in
    let ls = g.A.Agenda.lists c.turn_to.new.agenda in
    let left = g.A.Agenda.lists c.take_due.new.self in
    let none = c.in-None.ensures.none in
    let on = all_on_agenda c.args.now front.standings.items front.drivers.items (vec_capacity front.drivers) (spare c.turn_to.new.agenda) ls c.turn_to.ensures.is none.0 in
    let kept = immediate-kept front.standings.items after.standings.items front.drivers.items after.drivers.items (vec_capacity front.drivers) (vec_capacity after.drivers) (spare c.turn_to.new.agenda) ls c.turn_to.ensures.is none.0 none.1 none.2 c.in-None.ensures.capacity in
    let is = immediate-due c.args.now after.standings.items after.drivers.items (vec_capacity after.drivers) (spare c.turn_to.new.agenda) (spare c.take_due.new.self) ls left c.take_due.result kept c.take_due.ensures.spare c.take_due.ensures.some c.take_due.ensures.none in
    due_none c.args.now ls left c.args.self.now.0 (lists_of c.turn_to.new.time after.standings.items left) c.take_due.result (sym (c.turn_to.ensures.lists ∙ ap (λ a. a.0) c.self.view_is) ∙ on)
    (all_on_agenda c.turn_to.new.time after.standings.items after.drivers.items (vec_capacity after.drivers) (spare c.take_due.new.self) left is none.1) c.take_due.ensures.none
