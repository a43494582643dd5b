-- The driver has one pair more.
use Rattle.std.proofs.Common.{◌≡◌, ◌+◌, ◌<◌, ap, subst, arith, length, set}
use Rattle.std.proofs.lemmas.List.{length-set}
use Rattle.sg_model.specs.Pending.{IsAbove}
use Rattle.pulse_list.specs.Plain.{pairs_of}
use Rattle.pulse_list.proofs.TableLaws.{in_view, in_counts, latest_in_view, view-appended, plain-rewritten, count_at, length-pairs_of}
use Rattle.pulse_list.proofs.plain.PlainAgendaAgenda.append.Goals as goal

pub insert-requires-clause-later : goal.insert-requires-clause-later
insert-requires-clause-later c =
    subst (IsAbove c.args.time) (latest_in_view _ _ _ c.args.driver (ap (λ a. a.0) c.self.view_is) c.requires.driver) c.requires.later

pub index_mut-requires : goal.index_mut-requires
index_mut-requires c = in_counts _ _ _ c.args.driver _ (ap (λ a. a.0) c.self.view_is) c.self.inside.counts.ok.0 c.requires.driver

pub overflow_add-index_mut : goal.overflow_add-index_mut
overflow_add-index_mut c =
    let count : c.index_mut.result.now ≡ length (pairs_of c.args.driver c.self.inside.pending.items) =
    count_at _ _ c.args.driver _ c.self.invariant c.index_mut.ensures.value (in_view _ _ _ c.args.driver (ap (λ a. a.0) c.self.view_is) c.requires.driver) in
    let most = length-pairs_of c.args.driver c.self.inside.pending.items in
    let len = c.self.inside.pending.ok in
    let small = c.self.inside.pending.small in
    omega arith

pub invariant_of-self : goal.invariant_of-self
invariant_of-self c =
    let within : c.args.driver < length c.self.inside.counts.items = in_view _ _ _ c.args.driver (ap (λ a. a.0) c.self.view_is) c.requires.driver in
    let count : c.index_mut.result.now ≡ length (pairs_of c.args.driver c.self.inside.pending.items) =
    count_at _ _ c.args.driver _ c.self.invariant c.index_mut.ensures.value within in
    plain-rewritten _ _ _ _ c.args.driver _ c.self.invariant within c.insert.ensures.pairs
    (ap (set c.self.inside.counts.items c.args.driver) (omega arith))
    (subst (IsAbove c.args.time) (latest_in_view _ _ _ c.args.driver (ap (λ a. a.0) c.self.view_is) c.requires.driver) c.requires.later, c.self.invariant.rises c.args.driver)
    c.insert.ensures.falls

pub returns-clause-lists : goal.returns-clause-lists
returns-clause-lists c =
    view-appended _ _ _ (set c.self.inside.counts.items c.args.driver (c.index_mut.result.now + 1)) _ c.args.driver _ (ap (λ a. a.0) c.self.view_is) c.requires.driver
    (length-set c.self.inside.counts.items c.args.driver (c.index_mut.result.now + 1)) c.insert.ensures.pairs
