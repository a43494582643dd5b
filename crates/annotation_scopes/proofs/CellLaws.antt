-- Marks of scopes, and the scopes of a cell.
use Rattle.std.specs.Prelude.{◌≡◌, ◌≢◌, ℕ, ◌+◌, ◌<◌, ◌≤◌, Bool, true, false, if◌then◌else◌, List, length, take, slice_index_or, slice_set}
use Rattle.std.proofs.Common.{ap, sym, ◌∙◌, subst, inl, inr}
use Rattle.std.proofs.lemmas.Bool.{cases_eq}
use Rattle.std.proofs.lemmas.List.{get_or-set_same, get_or-set_other, length-map, take_more, take_all}
use Rattle.sdf_tree.specs.declared.words.Divider.{Divider}
use Rattle.sdf_tree.specs.Written.{Instance}
use Rattle.sg_circuit.specs.Seen.{circuit_seen, scope_seen}
use Rattle.annotation_model.specs.Ports.{has}
use Rattle.annotation_model.specs.Scopes.{is_of_cell}
use Rattle.annotation_index.specs.Candidates.{cell_scopes}
use Rattle.annotation_index.proofs.PickLaws.{has_one, has_other}
use Rattle.annotation_index.proofs.ScopeLaws.{of_cell}
use Rattle.annotation_places.specs.declared.places.Places as code_places
use Rattle.annotation_places.specs.Places.{ArePlaces, lookups_of}

-- ---- marks

-- the mark that a scope has, if some have a new one
abbrev pub mark_of : (scopes : List ℕ) (mark old : Bool) → ℕ → Bool
mark_of scopes mark old t = if has t scopes then mark else old

module _ (old : List Bool) (scopes : List ℕ) (mark : Bool) where
  abbrev pub AreSet : ℕ → List Bool → Type 0
  AreSet i marks = (t : ℕ) → slice_index_or marks t false ≡ mark_of (take i scopes) mark (slice_index_or old t false) t

  pub one_marked : (i d : ℕ) (marks : List Bool) → i < length scopes → slice_index_or scopes i d < length marks → AreSet i marks → AreSet (i + 1) (slice_set marks (slice_index_or scopes i d) mark)
  one_marked i d marks l within h t = elim (cases_eq (slice_index_or scopes i d) t) [
    | inl e ↦ ap (λ n. slice_index_or (slice_set marks (slice_index_or scopes i d) mark) n false) (sym e)
        ∙ (get_or-set_same marks (slice_index_or scopes i d) mark false within ∙ ap (λ b. if b then mark else slice_index_or old t false) (sym (here e)))
    | inr e ↦ get_or-set_other marks (slice_index_or scopes i d) t mark false (λ q. e (sym q)) ∙ (h t ∙ ap (λ b. if b then mark else slice_index_or old t false) (sym (elsewhere e)))
  ]
    where
      here : slice_index_or scopes i d ≡ t → has t (take (i + 1) scopes) ≡ true
      here e = ap (λ xs. has t xs) (take_more scopes i d l) ∙ has_one t (slice_index_or scopes i d) (take i scopes) e

      elsewhere : slice_index_or scopes i d ≢ t → has t (take (i + 1) scopes) ≡ has t (take i scopes)
      elsewhere e = ap (λ xs. has t xs) (take_more scopes i d l) ∙ has_other t (slice_index_or scopes i d) (take i scopes) e

  pub all_marked : (i : ℕ) (marks : List Bool) → length scopes ≤ i → AreSet i marks → (t : ℕ) → slice_index_or marks t false ≡ mark_of scopes mark (slice_index_or old t false) t
  all_marked i marks l h t = h t ∙ ap (λ xs. mark_of xs mark (slice_index_or old t false) t) (take_all i scopes l)

-- ---- the scopes of a cell

pub listed : (p : code_places.Places) (divider : Divider) (cell_type : List ℕ) (instance : Instance) (scopes : List ℕ) → ArePlaces p → scopes ≡ cell_scopes (lookups_of p) divider cell_type instance
    → (t : ℕ) → t < length p.parts.now.scopes.items → has t scopes ≡ is_of_cell (circuit_seen p.parts.now) divider cell_type instance t
listed p divider cell_type instance scopes are e t l =
    ap (λ xs. has t xs) e
    ∙ of_cell (circuit_seen p.parts.now) (lookups_of p) are.exact divider cell_type instance t (subst (λ n. t < n) (sym (length-map p.parts.now.scopes.items scope_seen)) l)
