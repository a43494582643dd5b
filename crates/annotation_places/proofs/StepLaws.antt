-- One place of the code's parts more in an index.
use Rattle.std.specs.Prelude.{◌≡◌, refl, ℕ, ◌+◌, ◌<◌, ◌&&◌, bytes_eq, Bool, List, [], ◌++◌, length, map, slice_index_or}
use Rattle.std.proofs.Common.{ap, sym, ◌∙◌, subst, arith}
use Rattle.std.proofs.lemmas.List.{get_or-map, length-map}
use Rattle.sg_circuit.specs.Circuit.{Scope, Variable, scope_at}
use Rattle.sg_circuit.specs.Closed.{IsClosed}
use Rattle.sg_circuit.specs.Seen.{circuit_seen, scope_seen, variable_seen}
use Rattle.sg_circuit.specs.declared.circuits.Parts.{Parts}
use Rattle.sg_circuit.specs.declared.checks.CheckTiming.{CheckTiming}
use Rattle.sg_circuit.specs.declared.scopes.Scope as code_scope
use Rattle.sg_circuit.specs.declared.scopes.Variable as code_variable
use Rattle.annotation_model.specs.Scopes.{is_scope}
use Rattle.annotation_model.specs.Spots.{scope_of, all_checked}
use Rattle.annotation_model.specs.Finding.{no_spot, check_at}
use Rattle.annotation_index.specs.declared.index.Index.{Index}
use Rattle.annotation_index.specs.Index.{list_at, same_key, one_if, AreNamed}
use Rattle.annotation_spots.specs.declared.spots.Spot as code_spot
use Rattle.annotation_spots.specs.Rows.{AreRows, spot_of}
use Rattle.annotation_spots.proofs.RowLaws.{spot-of_row}
use Rattle.annotation_places.specs.Places.{no_variable}
use Rattle.annotation_places.specs.Indexes.{HasMore, nothing, Holds, is_inside, is_of_module, stands_in, refers_to, is_called, HoldsVariables}
use Rattle.annotation_places.proofs.IndexLaws.{holds_more, more_variables}
use Rattle.annotation_places.proofs.PlaceLaws.{length-checked, checked_timing}

-- a number more with a key
pub holds_key : (before : ℕ → List ℕ → List ℕ) (old new : Index) (test : ℕ → ℕ → List ℕ → Bool) (n key key' : ℕ) (name name' : List ℕ) → Holds before old test n → AreNamed new
    → ((o : ℕ) (xs : List ℕ) → list_at new o xs ≡ list_at old o xs ++ one_if (same_key key name o xs) n)
    → key ≡ key' → name ≡ name' → ((o : ℕ) (xs : List ℕ) → same_key key' name' o xs ≡ test n o xs) → Holds before new test (n + 1)
holds_key before old new test n key key' name name' h named items same_number same_name same = holds_more before old new test n h (record {
  named = named;
  items = λ o xs.
      items o xs
      ∙ (ap (λ k. list_at old o xs ++ one_if (same_key k name o xs) n) same_number
      ∙ (ap (λ ys. list_at old o xs ++ one_if (same_key key' ys o xs) n) same_name ∙ ap (λ b. list_at old o xs ++ one_if b n) (same o xs)));
})

module _ (parts : Parts) where
  -- ---- scopes

  pub scope_there : (n : ℕ) (scope : code_scope.Scope) → n < length parts.scopes.items → scope ≡ slice_index_or parts.scopes.items n scope → scope_seen scope ≡ scope_at (circuit_seen parts) n
  scope_there n scope l is = ap (λ s. scope_seen s) is ∙ sym (get_or-map (λ s. scope_seen s) parts.scopes.items n scope _ l)

  pub instance_more : (old new : Index) (n : ℕ) (scope : code_scope.Scope) → n < length parts.scopes.items → scope ≡ slice_index_or parts.scopes.items n scope → Holds nothing old (is_inside (circuit_seen parts)) n
      → HasMore old new (λ o name. bytes_eq scope.name name && is_scope o scope.parent) n → Holds nothing new (is_inside (circuit_seen parts)) (n + 1)
  instance_more old new n scope l is h more =
      holds_more nothing old new (is_inside (circuit_seen parts)) n h
      (subst (λ (s : Scope). HasMore old new (λ o name. bytes_eq s.name name && is_scope o s.parent) n) (scope_there n scope l is) more)

  pub module_more : (old new : Index) (n : ℕ) (scope : code_scope.Scope) (name : List ℕ) → n < length parts.scopes.items → scope ≡ slice_index_or parts.scopes.items n scope → name ≡ scope.module
      → Holds nothing old (is_of_module (circuit_seen parts)) n → AreNamed new
      → ((o : ℕ) (xs : List ℕ) → list_at new o xs ≡ list_at old o xs ++ one_if (same_key 0 name o xs) n) → Holds nothing new (is_of_module (circuit_seen parts)) (n + 1)
  module_more old new n scope name l is called h named items =
      holds_key nothing old new (is_of_module (circuit_seen parts)) n 0 0 name (scope_at (circuit_seen parts) n).module_name h named items refl
      (called ∙ ap (λ (s : Scope). s.module_name) (scope_there n scope l is)) (λ o xs. refl)

  -- ---- legs and paths, and timing checks

  pub spot_more : (rows : List code_spot.Spot) (d : code_spot.Spot) (old new : Index) (n scope : ℕ) → AreRows (circuit_seen parts) rows → n < length rows
      → scope ≡ scope_of (spot_of (circuit_seen parts) (slice_index_or rows n d))
      → Holds nothing old (stands_in (circuit_seen parts)) n → AreNamed new
      → ((o : ℕ) (xs : List ℕ) → list_at new o xs ≡ list_at old o xs ++ one_if (same_key scope [] o xs) n) → Holds nothing new (stands_in (circuit_seen parts)) (n + 1)
  spot_more rows d old new n scope are l is h named items =
      holds_key nothing old new (stands_in (circuit_seen parts)) n scope _ [] [] h named items (is ∙ ap scope_of (sym (spot-of_row (circuit_seen parts) rows n d no_spot are l))) refl
      (λ o xs. refl)

  pub check_more : (closed : IsClosed (circuit_seen parts)) (old new : Index) (n : ℕ) (timing : CheckTiming) → n < length parts.checks.items
      → timing ≡ slice_index_or parts.check_timings.items n timing
      → Holds nothing old (refers_to (circuit_seen parts)) n → AreNamed new
      → ((o : ℕ) (xs : List ℕ) → list_at new o xs ≡ list_at old o xs ++ one_if (same_key timing.refer.net [] o xs) n) → Holds nothing new (refers_to (circuit_seen parts)) (n + 1)
  check_more closed old new n timing l is h named items =
      holds_key nothing old new (refers_to (circuit_seen parts)) n timing.refer.net _ [] [] h named items (ap (λ (t : CheckTiming). t.refer.net) (is ∙ sym there)) refl (λ o xs. refl)
    where
      all : length (all_checked (circuit_seen parts)) ≡ length parts.checks.items
      all = length-checked (circuit_seen parts).checks (circuit_seen parts).check_timings (circuit_seen parts).check_conditions closed.timing_of_each closed.conditions_of_each

      there : (check_at (circuit_seen parts) n).timing ≡ slice_index_or parts.check_timings.items n timing
      there = checked_timing (circuit_seen parts).checks (circuit_seen parts).check_timings (circuit_seen parts).check_conditions n timing (omega (arith, l, all))

  -- ---- variables

  pub scope_more : (old new : Index) (n : ℕ) (scope : code_scope.Scope) (vs : List code_variable.Variable) → n < length parts.scopes.items → scope ≡ slice_index_or parts.scopes.items n scope
      → vs ≡ scope.variables.items → HoldsVariables (circuit_seen parts) old n
      → Holds (list_at old) new (is_called n (map (λ v. variable_seen v) vs)) (length vs) → HoldsVariables (circuit_seen parts) new (n + 1)
  scope_more old new n scope vs l is own h more = more_variables (circuit_seen parts) old new n h
      (subst (λ ws. Holds (list_at old) new (is_called n ws) (length ws)) same (subst (λ m. Holds (list_at old) new (is_called n (map (λ v. variable_seen v) vs)) m) (sym (length-map vs (λ v. variable_seen v))) more))
    where
      same : map (λ v. variable_seen v) vs ≡ (scope_at (circuit_seen parts) n).variables
      same = ap (map (λ v. variable_seen v)) own ∙ ap (λ (s : Scope). s.variables) (scope_there n scope l is)

pub variable_more : (before : ℕ → List ℕ → List ℕ) (old new : Index) (s n : ℕ) (vs : List code_variable.Variable) (v : code_variable.Variable) (name : List ℕ) → n < length vs
    → name ≡ (slice_index_or vs n v).name
    → Holds before old (is_called s (map (λ v. variable_seen v) vs)) n → AreNamed new
    → ((o : ℕ) (xs : List ℕ) → list_at new o xs ≡ list_at old o xs ++ one_if (same_key s name o xs) n) → Holds before new (is_called s (map (λ v. variable_seen v) vs)) (n + 1)
variable_more before old new s n vs v name l called h named items =
    holds_key before old new (is_called s (map (λ v. variable_seen v) vs)) n s s name _ h named items refl
    (called ∙ ap (λ (x : Variable). x.name) (sym (get_or-map (λ v. variable_seen v) vs n v no_variable l))) (λ o xs. refl)
