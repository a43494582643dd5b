-- A circuit with its own limits is adjusted as it stands.
use Rattle.std.specs.Prelude.{◌≡◌, ℕ, ℤ, List, [], ◌∷◌, map, refl}
use Rattle.std.proofs.Common.{sym, ◌∙◌, ap, subst}
use Rattle.sg_circuit.specs.declared.checks.CheckTiming.{CheckTiming}
use Rattle.sg_circuit.specs.Circuit.{Circuit, Element}
use Rattle.sg_circuit.specs.Closed.{IsClosed}
use Rattle.sg_circuit.specs.Signals.{AreShort}
use Rattle.late_limits.specs.Adjustments.{with_limits, AreSameElements, none, more, IsLike}

own-limits : (ts : List CheckTiming) → with_limits ts (map (λ t. t.limits) ts) ≡ ts
own-limits [] = refl
own-limits (t ∷ ts) = ap (λ us. t ∷ us) (own-limits ts)

same-elements : (es : List Element) → AreSameElements es es
same-elements [] = none
same-elements (e ∷ es) = more (record { scope = refl; inputs = refl; kind = refl }) (same-elements es)

module _ (c : Circuit) (limits : List (List ℤ)) (own : limits ≡ map (λ t. t.limits) c.check_timings) where
  with-own : with_limits c.check_timings limits ≡ c.check_timings
  with-own = ap (with_limits c.check_timings) own ∙ own-limits c.check_timings

  pub like-itself : IsLike c limits c
  like-itself = record { checks = refl; timings = sym with-own; scopes = refl; elements = same-elements c.elements }

  pub own-short : IsClosed c → (scope : ℕ) → AreShort c.checks (with_limits c.check_timings limits) scope
  own-short closed scope = subst (λ ts. AreShort c.checks ts scope) (sym with-own) (closed.short scope)
