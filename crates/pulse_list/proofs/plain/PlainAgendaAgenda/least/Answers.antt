-- The transition at the end has the least time.
use Rattle.std.proofs.Common.{ap, sym, ◌∙◌}
use Rattle.pulse_list.proofs.EarliestLaws.{end-least, empty-least}
use Rattle.pulse_list.proofs.plain.PlainAgendaAgenda.least.Goals as goal

pub returns-in_err-earliest-clause-none : goal.returns-in_err-earliest-clause-none
returns-in_err-earliest-clause-none c = rw c.from_residual.ensures (empty-least _ _ _ (sym c.deref.ensures.value ∙ c.in_err-earliest.ensures) (ap (λ a. a.0) c.self.view_is))

pub returns-clause-some : goal.returns-clause-some
returns-clause-some c = end-least _ c.in_ok-earliest.ensures.0 _ _ _ c.self.invariant (sym c.deref.ensures.value ∙ c.in_ok-earliest.ensures.1) (ap (λ a. a.0) c.self.view_is)
