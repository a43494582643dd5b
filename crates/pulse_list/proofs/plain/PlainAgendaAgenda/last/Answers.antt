-- The first transition of a driver is its latest.
use Rattle.std.proofs.Common.{◌≡◌, ap, sym, ◌∙◌, subst, length}
use Rattle.std.proofs.lemmas.List.{nil_from_length}
use Rattle.sg_model.specs.Pending.{first_of}
use Rattle.sg_model.specs.Agenda.{Rises}
use Rattle.pulse_list.specs.Plain.{pairs_of}
use Rattle.pulse_list.proofs.TableLaws.{in_view, in_counts, latest_in_view, count_at}
use Rattle.pulse_list.proofs.plain.PlainAgendaAgenda.last.Goals as goal

pub index-requires : goal.index-requires
index-requires c = in_counts _ _ _ c.args.driver _ (ap (λ a. a.0) c.self.view_is) c.self.inside.counts.ok.0 c.requires.driver

pub returns-then-index-eq0-clause-last : goal.returns-then-index-eq0-clause-last
returns-then-index-eq0-clause-last c =
    let count : c.index.result.now ≡ length (pairs_of c.args.driver c.self.inside.pending.items) =
    count_at _ _ c.args.driver _ c.self.invariant c.index.ensures (in_view _ _ _ c.args.driver (ap (λ a. a.0) c.self.view_is) c.requires.driver) in
    sym (ap first_of (latest_in_view _ _ _ c.args.driver (ap (λ a. a.0) c.self.view_is) c.requires.driver ∙ nil_from_length _ (sym count ∙ c.if-index-eq0.true)))

pub returns-then-index-eq0-clause-rising : goal.returns-then-index-eq0-clause-rising
returns-then-index-eq0-clause-rising c = subst Rises (sym (latest_in_view _ _ _ c.args.driver (ap (λ a. a.0) c.self.view_is) c.requires.driver)) (c.self.invariant.rises c.args.driver)

pub returns-clause-last : goal.returns-clause-last
returns-clause-last c =
    c.latest.ensures ∙ (ap (λ xs. first_of (pairs_of c.args.driver xs)) c.deref.ensures.value ∙ sym (ap first_of (latest_in_view _ _ _ c.args.driver (ap (λ a. a.0) c.self.view_is) c.requires.driver)))

pub returns-clause-rising : goal.returns-clause-rising
returns-clause-rising c = subst Rises (sym (latest_in_view _ _ _ c.args.driver (ap (λ a. a.0) c.self.view_is) c.requires.driver)) (c.self.invariant.rises c.args.driver)
