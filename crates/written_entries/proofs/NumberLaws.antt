-- The tables of what each scope has: how they are made, and what their numbers are.
use Rattle.std.proofs.Common.{◌≡◌, ℕ, ◌<◌, Bool, List, length, sym, ◌∙◌, ap, subst, arith}
use Rattle.std.specs.Prelude.{All, map, Result, Ok, Err, IfOk, slice_index_or}
use Rattle.std.proofs.lemmas.List.{get_or_default, length-map}
use Rattle.late_limits.specs.Grouping.{element_scope, pins_by}
use Rattle.sg_circuit.specs.declared.building.Pin.{Pin}
use Rattle.sg_circuit.specs.declared.checks.Check.{Check}
use Rattle.sg_circuit.specs.declared.circuits.Parts.{Parts}
use Rattle.sg_circuit.specs.declared.elements.Element as code_element
use Rattle.sg_circuit.specs.Circuit.{Element}
use Rattle.sg_circuit.specs.Closed.{IsClosed}
use Rattle.sg_circuit.specs.FanOut.{readers_at}
use Rattle.sg_circuit.specs.Pins.{elements_on, HasPins}
use Rattle.sg_circuit.specs.Seen.{circuit_seen, element_seen, scope_seen}
use Rattle.sg_circuit.proofs.SeenLaws.{all-unmapped}
use Rattle.written_entries.specs.declared.groups.Groups.{Groups}
use Rattle.written_entries.specs.Groups.{any_check, check_scope, is_delayed, AreElementsOf, AreChecksOf, AreGroups}
use Rattle.written_entries.proofs.GroupLaws.{all_gathered, pins-within}

-- ---- how a table is made

pub pins_within : {A : Type 0} (key : A → ℕ) (test : A → Bool) (keys : ℕ) (xs : List A) (pins seen : List Pin) → All (λ x. key x < keys) xs → pins ≡ pins_by key test 0 xs → seen ≡ pins → All (λ (p : Pin). p.net < keys) seen
pins_within key test keys xs pins seen h e f = subst (λ ps. All (λ (p : Pin). p.net < keys) ps) (sym (f ∙ e)) (pins-within key test keys 0 xs h)

pub has_pins : {E : Type 0} (all pins seen : List Pin) (r : Result (List (List ℕ)) E) → pins ≡ all → seen ≡ pins → IfOk r (λ table. HasPins seen table) → IfOk r (λ table. HasPins all table)
has_pins all pins seen (Ok table) e f h = subst (λ ps. HasPins ps table) (f ∙ e) h
has_pins all pins seen (Err why) e f h = tt

-- each element stands in a scope
pub scopes_within : (parts : Parts) → IsClosed (circuit_seen parts) → (es : List code_element.Element) (scopes : ℕ) → es ≡ parts.elements.items → scopes ≡ length parts.scopes.items → All (λ e. e.scope < scopes) es
scopes_within parts closed es scopes e f =
    let many : length (map (λ s. scope_seen s) parts.scopes.items) ≡ scopes = length-map parts.scopes.items (λ s. scope_seen s) ∙ sym f in
    subst (λ xs. All (λ x. x.scope < scopes) xs) (sym e)
    (all-unmapped (λ (x : Element). x.scope < scopes) (element_seen parts) parts.elements.items (subst (λ n. All (λ x. x.scope < n) (circuit_seen parts).elements) many closed.element_scopes))

-- ---- the numbers of a scope

module _ (parts : Parts) (g : Groups) (groups : AreGroups parts g) (s : ℕ) (within : s < length parts.scopes.items) where
  pub element_numbers : readers_at g.elements s ≡ elements_on s (pins_by element_scope is_delayed 0 parts.elements.items)
  element_numbers = groups.elements.each s (let n = groups.element_scopes in omega (arith, n, within))

  pub check_numbers : readers_at g.checks s ≡ elements_on s (pins_by check_scope any_check 0 parts.checks.items)
  check_numbers = groups.checks.each s (let n = groups.check_scopes in omega (arith, n, within))

  pub elements_of_scope : AreElementsOf parts.elements.items s (readers_at g.elements s)
  elements_of_scope =
      let xs = parts.elements.items in record {
        within = subst (λ ns. All (λ n. n < length xs) ns) (sym element_numbers) (all_gathered element_scope is_delayed s (λ n. n < length xs) xs (λ i x l at same. l));
        scopes = subst (λ ns. All (λ n. (e : code_element.Element) → (slice_index_or xs n e).scope ≡ s) ns) (sym element_numbers)
            (all_gathered element_scope is_delayed s (λ n. (e : code_element.Element) → (slice_index_or xs n e).scope ≡ s) xs (λ i x l at same e. ap element_scope (get_or_default xs i e x l ∙ sym at) ∙ same));
      }

  pub checks_of_scope : AreChecksOf parts.checks.items s (readers_at g.checks s)
  checks_of_scope =
      let xs = parts.checks.items in record {
        within = subst (λ ns. All (λ n. n < length xs) ns) (sym check_numbers) (all_gathered check_scope any_check s (λ n. n < length xs) xs (λ i x l at same. l));
        scopes = subst (λ ns. All (λ n. (k : Check) → (slice_index_or xs n k).scope ≡ s) ns) (sym check_numbers)
            (all_gathered check_scope any_check s (λ n. (k : Check) → (slice_index_or xs n k).scope ≡ s) xs (λ i x l at same k. ap check_scope (get_or_default xs i k x l ∙ sym at) ∙ same));
      }
