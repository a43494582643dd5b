-- The precisions of scopes, and how many signals they have.
use Rattle.std.specs.Prelude.{◌≡◌, ℕ, pos, ◌<◌, ◌≤ℤ◌, false, List, [], length, map, None, slice_index_or}
use Rattle.std.specs.List.{range_with_len}
use Rattle.std.proofs.Common.{ap, sym, subst, zero-add, ◌∙◌}
use Rattle.std.proofs.lemmas.List.{get_or-map, length-map}
use Rattle.std.proofs.lemmas.List.FromFn.{get_or-map-range_with_len, length-range_with_len}
use Rattle.sg_circuit.specs.Circuit.{Scope, scope_at}
use Rattle.sg_circuit.specs.Closed.{IsClosed}
use Rattle.sg_circuit.specs.Seen.{circuit_seen, scope_seen}
use Rattle.sg_circuit.specs.Signals.{signals}
use Rattle.sg_circuit.specs.declared.checks.Check.{Check}
use Rattle.sg_circuit.specs.declared.circuits.Parts.{Parts}
use Rattle.sg_circuit.specs.declared.scopes.Scope as code_scope
use Rattle.annotation_model.specs.Spots.{scope_of}
use Rattle.annotation_spots.specs.Rows.{IsIn, spot_of}
use Rattle.annotation_spots.specs.declared.spots.Spot as code_spot
use Rattle.sdf_annotate.proofs.RowLaws.{scope-within}

abbrev pub no_scope : Scope
no_scope = record { parent = None; name = []; module_name = []; unit = pos 0; precision = pos 0; is_leaf = false; variables = [] }

module _ (parts : Parts) where
  scope-count : length (circuit_seen parts).scopes ≡ length parts.scopes.items
  scope-count = length-map parts.scopes.items (λ (s : code_scope.Scope). scope_seen s)

  pub precision-is : (s : ℕ) (d : code_scope.Scope) → s < length parts.scopes.items → (scope_at (circuit_seen parts) s).precision ≡ (slice_index_or parts.scopes.items s d).scale.precision.power
  precision-is s d l = ap (λ (x : Scope). x.precision) (get_or-map (λ (x : code_scope.Scope). scope_seen x) parts.scopes.items s d no_scope l)

  -- none is finer than the tick
  pub precision-fine : (s : ℕ) (d : code_scope.Scope) → IsClosed (circuit_seen parts) → s < length parts.scopes.items → parts.tick.power ≤ℤ (slice_index_or parts.scopes.items s d).scale.precision.power
  precision-fine s d closed l = subst (λ p. parts.tick.power ≤ℤ p) (precision-is s d l) (closed.scales s no_scope (subst (λ n. s < n) (sym scope-count) l))

  -- a row's leg or path stands in one of them
  pub scope-of-row : (row : code_spot.Spot) (s : ℕ) → IsClosed (circuit_seen parts) → IsIn (circuit_seen parts) row → s ≡ scope_of (spot_of (circuit_seen parts) row) → s < length parts.scopes.items
  scope-of-row row s closed within e = subst (λ t. t < length parts.scopes.items) (sym e) (subst (λ n. scope_of (spot_of (circuit_seen parts) row) < n) scope-count (scope-within (circuit_seen parts) row closed within))

  -- so does a timing check
  pub scope-of-check : (n : ℕ) (k : Check) → IsClosed (circuit_seen parts) → n < length parts.checks.items → k ≡ slice_index_or parts.checks.items n k → k.scope < length parts.scopes.items
  scope-of-check n k closed l is = subst (λ (x : Check). x.scope < length parts.scopes.items) (sym is) (subst (λ m. (slice_index_or parts.checks.items n k).scope < m) scope-count (closed.check_scopes n k l))

-- ---- how many signals scopes have

module _ (parts : Parts) (counts : List ℕ) (are : counts ≡ map (λ scope. length (signals parts.checks.items parts.check_timings.items scope)) (range_with_len 0 (length parts.scopes.items)))
    (n : ℕ) (k : Check) (closed : IsClosed (circuit_seen parts)) (l : n < length parts.checks.items) (is : k ≡ slice_index_or parts.checks.items n k) where
  pub count-within : k.scope < length counts
  count-within =
      let F = λ (scope : ℕ). length (signals parts.checks.items parts.check_timings.items scope) in
      subst (λ m. k.scope < m) (sym (ap length are ∙ (length-map (range_with_len 0 (length parts.scopes.items)) F ∙ length-range_with_len 0 (length parts.scopes.items)))) (scope-of-check parts n k closed l is)

  -- that of a check's scope
  pub count-of-check : slice_index_or counts k.scope 0 ≡ length (signals parts.checks.items parts.check_timings.items k.scope)
  count-of-check =
      ap (λ cs. slice_index_or cs k.scope 0) are
      ∙ get_or-map-range_with_len (λ scope. length (signals parts.checks.items parts.check_timings.items scope)) 0 (length parts.scopes.items) k.scope k.scope 0 (scope-of-check parts n k closed l is) (zero-add k.scope)
