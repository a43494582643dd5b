-- The circuit's own limits are short, and so it is adjusted as it stands.
use Rattle.std.specs.Prelude.{◌≡◌, map}
use Rattle.std.proofs.Common.{◌∙◌, ap, subst, sym}
use Rattle.late_limits.specs.Adjustments.{IsAdjustmentOf}
use Rattle.vl_elab.proofs.OwnLimits.{like-itself, own-short}
use Rattle.vl_elab.proofs.adjusting.adjusted.Goals.{After-deref-2}
use Rattle.vl_elab.proofs.adjusting.adjusted.Goals as goal

own : (c : After-deref-2) → c.deref-2.result.now ≡ map (λ t. t.limits) c.args.circuit.check_timings
own c = c.deref-2.ensures.value ∙ c.in_ok-limits.ensures ∙ ap (map (λ t. t.limits)) (c.deref.ensures.value ∙ ap (λ k. k.check_timings) c.parts.ensures.seen)

pub adjust-requires-clause-short : goal.adjust-requires-clause-short
adjust-requires-clause-short c = own-short c.args.circuit c.deref-2.result.now (own c) c.parts.ensures.closed

pub adjust-requires-2 : goal.adjust-requires-2
adjust-requires-2 c =
    subst (λ k. IsAdjustmentOf k c.in_ok-found.found) (sym c.in-Ok.ensures.circuit)
    (c.in_ok-found.ensures c.args.circuit (like-itself c.args.circuit c.deref-2.result.now
    (c.deref-2.ensures.value ∙ c.in_ok-limits.ensures ∙ ap (map (λ t. t.limits)) (c.deref.ensures.value ∙ ap (λ k. k.check_timings) c.parts.ensures.seen))))
