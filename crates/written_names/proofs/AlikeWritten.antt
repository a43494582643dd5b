-- Circuits that differ in delays and limits alone have the same named places.
use Rattle.std.specs.Prelude.{◌≡◌, ℕ, List, All, IfSome, map}
use Rattle.std.specs.List.{AllByRecursion}
use Rattle.std.proofs.Common.{sym, ◌∙◌, ap, subst}
use Rattle.std.proofs.lemmas.List.Elements.{All-from_recursion, recursion_from_All}
use Rattle.sg_circuit.specs.Checks.{CheckConditions}
use Rattle.sg_circuit.specs.Circuit.{Circuit, Scope, scope_at}
use Rattle.sg_circuit.specs.declared.checks.Check.{Check}
use Rattle.annotation_model.specs.Spots.{Checked, Spot, all_checked, checked, leg_spot, path_spot, spots}
use Rattle.elab_laws.proofs.Lists.{all-map, all-map_back, all-weaker}
use Rattle.written_giving.specs.AnnotatedBack.{IsLike}
use Rattle.written_giving.proofs.AlikeLaws as alike
use Rattle.written_giving.proofs.FromLaws.{bare_checked, checked-alike}
use Rattle.written_giving.proofs.SpotLaws.{bare_spot, spots-alike}
use Rattle.written_reading.specs.Named.{IsInputOf, IsNamedCheck, IsNamedSpot, IsOutputOf, IsVariableOf}

module _ (c other : Circuit) (like : IsLike c other) where
  scopes-are : other.scopes ≡ c.scopes
  scopes-are = ap (λ (x : Circuit). x.scopes) like

  scope-is : (s : ℕ) → scope_at c s ≡ scope_at other s
  scope-is s = sym (alike.same other c scopes-are s)

  -- ---- spots

  named-bare : (x : Spot) → IsNamedSpot c x → IsNamedSpot c (bare_spot x)
  named-bare (leg_spot s inputs output timings) h = h
  named-bare (path_spot s output path) h = h

  bare-named : (x : Spot) → IsNamedSpot c (bare_spot x) → IsNamedSpot other x
  bare-named (leg_spot s inputs output timings) h = subst (λ (x : Scope). IsInputOf x.variables output) (scope-is s) h
  bare-named (path_spot s output path) h = (subst (λ (x : Scope). IsInputOf x.variables path.input) (scope-is s) h.0, subst (λ (x : Scope). IsOutputOf x.variables output) (scope-is s) h.1)

  pub spots-stay : All (IsNamedSpot c) (spots c) → All (IsNamedSpot other) (spots other)
  spots-stay h =
      let Named = IsNamedSpot c in
      let own : AllByRecursion Named (spots c) = recursion_from_All Named (spots c) h in
      let bare : AllByRecursion Named (map bare_spot (spots c)) = all-map Named bare_spot (spots c) (all-weaker Named (λ x. Named (bare_spot x)) (spots c) named-bare own) in
      let same : map bare_spot (spots c) ≡ map bare_spot (spots other) = sym (spots-alike other.elements c.elements (ap (λ (x : Circuit). x.elements) like)) in
      All-from_recursion (IsNamedSpot other) (spots other)
      (all-weaker (λ x. Named (bare_spot x)) (IsNamedSpot other) (spots other) bare-named (all-map_back Named bare_spot (spots other) (subst (AllByRecursion Named) same bare)))

  -- ---- timing checks

  check-bare : (k : Checked) → IsNamedCheck c k → IsNamedCheck c (bare_checked k)
  check-bare k h = record { refer = h.refer; datum = h.datum }

  bare-check : (k : Checked) → IsNamedCheck c (bare_checked k) → IsNamedCheck other k
  bare-check k h = record {
    refer = subst (λ (x : Scope). IsVariableOf x.variables k.timing.refer.net) (scope-is k.check.scope) h.refer;
    datum = subst (λ (x : Scope). IfSome k.timing.datum (λ e. IsVariableOf x.variables e.net)) (scope-is k.check.scope) h.datum;
  }

  pub checks-stay : All (IsNamedCheck c) (all_checked c) → All (IsNamedCheck other) (all_checked other)
  checks-stay h =
      let Named = IsNamedCheck c in
      let own : AllByRecursion Named (all_checked c) = recursion_from_All Named (all_checked c) h in
      let bare : AllByRecursion Named (map bare_checked (all_checked c)) = all-map Named bare_checked (all_checked c) (all-weaker Named (λ k. Named (bare_checked k)) (all_checked c) check-bare own) in
      let checks : other.checks ≡ c.checks = ap (λ (x : Circuit). x.checks) like in
      let conditions : other.check_conditions ≡ c.check_conditions = ap (λ (x : Circuit). x.check_conditions) like in
      let same : map bare_checked (all_checked other) ≡ map bare_checked (all_checked c) =
      ap (λ (ks : List Check). map bare_checked (checked ks other.check_timings other.check_conditions)) checks
      ∙ (ap (λ (ws : List CheckConditions). map bare_checked (checked c.checks other.check_timings ws)) conditions
      ∙ checked-alike c.checks other.check_timings c.check_timings c.check_conditions (ap (λ (x : Circuit). x.check_timings) like)) in
      All-from_recursion (IsNamedCheck other) (all_checked other)
      (all-weaker (λ k. Named (bare_checked k)) (IsNamedCheck other) (all_checked other) bare-check (all-map_back Named bare_checked (all_checked other) (subst (AllByRecursion Named) (sym same) bare)))
