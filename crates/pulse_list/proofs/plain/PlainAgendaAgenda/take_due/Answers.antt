-- The transition at the end is due, or none is.
use Rattle.std.proofs.Common.{◌≡◌, ◌-◌, ◌+◌, ◌∷◌, ◌++◌, [], ap, sym, ◌∙◌, refl, arith, length, set}
use Rattle.std.proofs.lemmas.List.{length-set}
use Rattle.pulse_list.specs.Plain.{pairs_of}
use Rattle.pulse_list.proofs.EarliestLaws.{end-nothing_due, end-within, end-count, end-plain, end-taken, empty-due, popped}
use Rattle.pulse_list.proofs.plain.PlainAgendaAgenda.take_due.Goals as goal

pub returns-in_err-due-clause-none : goal.returns-in_err-due-clause-none
returns-in_err-due-clause-none c = rw c.from_residual.ensures (empty-due _ _ c.args.now _ (sym c.deref.ensures.value ∙ c.in_err-due.ensures) (ap (λ a. a.0) c.self.view_is), refl)

pub returns-then-due-now-clause-none : goal.returns-then-due-now-clause-none
returns-then-due-now-clause-none c =
    (end-nothing_due _ c.in_ok-due.ensures.0 _ _ _ c.args.now c.self.invariant (sym c.deref.ensures.value ∙ c.in_ok-due.ensures.1) (ap (λ a. a.0) c.self.view_is) c.requires c.if-due-now.true, refl)

pub index_mut-requires : goal.index_mut-requires
index_mut-requires c = end-within _ c.in_ok-due.ensures.0 c.in_ok-due.due _ _ c.self.invariant (sym c.deref.ensures.value ∙ c.in_ok-due.ensures.1) c.self.inside.counts.ok.0

pub overflow_sub-index_mut : goal.overflow_sub-index_mut
overflow_sub-index_mut c =
    let count : c.index_mut.result.now ≡ length (pairs_of c.in_ok-due.due.driver c.in_ok-due.ensures.0) + 1 =
    end-count _ c.in_ok-due.ensures.0 c.in_ok-due.due _ _ c.self.invariant (sym c.deref.ensures.value ∙ c.in_ok-due.ensures.1) c.index_mut.ensures.value in
    omega arith

pub invariant_of-self : goal.invariant_of-self
invariant_of-self c =
    let cut : c.self.inside.pending.items ≡ c.in_ok-due.ensures.0 ++ c.in_ok-due.due ∷ [] = sym c.deref.ensures.value ∙ c.in_ok-due.ensures.1 in
    let count : c.index_mut.result.now ≡ length (pairs_of c.in_ok-due.due.driver c.in_ok-due.ensures.0) + 1 =
    end-count _ c.in_ok-due.ensures.0 c.in_ok-due.due _ _ c.self.invariant cut c.index_mut.ensures.value in
    end-plain _ c.in_ok-due.ensures.0 _ c.in_ok-due.due _ _ c.self.invariant cut (popped _ _ _ c.in_ok-due.due _ cut c.self.inside.pending.ok.0 c.pop.ensures.rest)
    (ap (set c.self.inside.counts.items c.in_ok-due.due.driver) (omega arith))

pub returns-clause-some : goal.returns-clause-some
returns-clause-some c =
    let cut : c.self.inside.pending.items ≡ c.in_ok-due.ensures.0 ++ c.in_ok-due.due ∷ [] = sym c.deref.ensures.value ∙ c.in_ok-due.ensures.1 in
    end-taken _ c.in_ok-due.ensures.0 _ c.in_ok-due.due _ (set c.self.inside.counts.items c.in_ok-due.due.driver (c.index_mut.result.now - 1)) _ c.args.now c.self.invariant cut (ap (λ a. a.0) c.self.view_is)
    (popped _ _ _ c.in_ok-due.due _ cut c.self.inside.pending.ok.0 c.pop.ensures.rest)
    (length-set c.self.inside.counts.items c.in_ok-due.due.driver (c.index_mut.result.now - 1)) c.if-due-now.false
