-- The driver has no pair.
use Rattle.std.proofs.Common.{[], ◌≡◌, ap, sym, ◌∙◌, arith, length, set}
use Rattle.std.proofs.lemmas.List.{length-set}
use Rattle.pulse_list.specs.Plain.{pairs_of}
use Rattle.pulse_list.proofs.TableLaws.{in_view, in_counts, view-clear, view-cleared, plain-rewritten, count_at}
use Rattle.pulse_list.proofs.plain.PlainAgendaAgenda.clear.Goals as goal

pub index-requires : goal.index-requires
index-requires c = in_counts _ _ _ c.args.driver _ (ap (λ a. a.0) c.self.view_is) c.self.inside.counts.ok.0 c.requires.driver

pub returns-then-index-eq0-clause-lists : goal.returns-then-index-eq0-clause-lists
returns-then-index-eq0-clause-lists c =
    let count : c.index.result.now ≡ length (pairs_of c.args.driver c.self.inside.pending.items) =
    count_at _ _ c.args.driver _ c.self.invariant c.index.ensures (in_view _ _ _ c.args.driver (ap (λ a. a.0) c.self.view_is) c.requires.driver) in
    view-clear _ _ _ c.args.driver (ap (λ a. a.0) c.self.view_is) c.requires.driver (sym count ∙ c.if-index-eq0.true)

pub index_mut-requires : goal.index_mut-requires
index_mut-requires c = in_counts _ _ _ c.args.driver _ (ap (λ a. a.0) c.self.view_is) c.self.inside.counts.ok.0 c.requires.driver

pub invariant_of-self : goal.invariant_of-self
invariant_of-self c =
    plain-rewritten _ _ _ _ c.args.driver [] c.self.invariant (in_view _ _ _ c.args.driver (ap (λ a. a.0) c.self.view_is) c.requires.driver) c.remove_all.ensures.pairs
    (ap (set c.self.inside.counts.items c.args.driver) (omega arith)) tt c.remove_all.ensures.falls

pub returns-clause-lists : goal.returns-clause-lists
returns-clause-lists c =
    view-cleared _ _ _ (set c.self.inside.counts.items c.args.driver 0) _ c.args.driver (ap (λ a. a.0) c.self.view_is) c.requires.driver
    (length-set c.self.inside.counts.items c.args.driver 0) c.remove_all.ensures.pairs
