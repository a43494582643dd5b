-- The driver has one pair less.
use Rattle.std.proofs.Common.{◌≡◌, ◌-◌, ◌<◌, ap, sym, ◌∙◌, arith, length, set}
use Rattle.std.proofs.lemmas.List.{length-set}
use Rattle.pulse_list.specs.Plain.{pairs_of}
use Rattle.sg_model.proofs.RiseLaws.{rises-rest_latest}
use Rattle.pulse_list.proofs.TableLaws.{in_view, in_counts, some_in_view, view-dropped, plain-rewritten, count_at, length-rest_of}
use Rattle.pulse_list.proofs.plain.PlainAgendaAgenda.drop_last.Goals as goal

pub index_mut-requires : goal.index_mut-requires
index_mut-requires c = in_counts _ _ _ c.args.driver _ (ap (λ a. a.0) c.self.view_is) c.self.inside.counts.ok.0 c.requires.driver

pub overflow_sub-index_mut : goal.overflow_sub-index_mut
overflow_sub-index_mut c =
    let count : c.index_mut.result.now ≡ length (pairs_of c.args.driver c.self.inside.pending.items) =
    count_at _ _ c.args.driver _ c.self.invariant c.index_mut.ensures.value (in_view _ _ _ c.args.driver (ap (λ a. a.0) c.self.view_is) c.requires.driver) in
    let some : 0 < length (pairs_of c.args.driver c.self.inside.pending.items) = some_in_view _ _ _ c.args.driver (ap (λ a. a.0) c.self.view_is) c.requires.driver c.requires.some in
    omega arith

pub invariant_of-self : goal.invariant_of-self
invariant_of-self c =
    let within : c.args.driver < length c.self.inside.counts.items = in_view _ _ _ c.args.driver (ap (λ a. a.0) c.self.view_is) c.requires.driver in
    let count : c.index_mut.result.now ≡ length (pairs_of c.args.driver c.self.inside.pending.items) =
    count_at _ _ c.args.driver _ c.self.invariant c.index_mut.ensures.value within in
    plain-rewritten _ _ _ _ c.args.driver _ c.self.invariant within c.remove_latest.ensures.pairs
    (ap (set c.self.inside.counts.items c.args.driver) (ap (λ n. n - 1) count ∙ sym (length-rest_of (pairs_of c.args.driver c.self.inside.pending.items))))
    (rises-rest_latest (pairs_of c.args.driver c.self.inside.pending.items) (c.self.invariant.rises c.args.driver))
    c.remove_latest.ensures.falls

pub returns-clause-lists : goal.returns-clause-lists
returns-clause-lists c =
    view-dropped _ _ _ (set c.self.inside.counts.items c.args.driver (c.index_mut.result.now - 1)) _ c.args.driver (ap (λ a. a.0) c.self.view_is) c.requires.driver
    (length-set c.self.inside.counts.items c.args.driver (c.index_mut.result.now - 1)) c.remove_latest.ensures.pairs
