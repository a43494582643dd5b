-- What was picked of the candidates is what the entry is for.
use Rattle.std.specs.Prelude.{◌≡◌, refl, ℕ, ◌<◌, ◌&&◌, nat_lt, Bool, true, false, if◌then◌else◌, List, [], length, slice_index_or}
use Rattle.std.proofs.Common.{ap, sym, ◌∙◌, subst, arith}
use Rattle.std.proofs.Math.Bool.{and-false}
use Rattle.std.proofs.lemmas.Bool.Decides.{nat_tests}
use Rattle.std.proofs.lemmas.List.{length-map}
use Rattle.sg_circuit.specs.Circuit.{Circuit}
use Rattle.sg_circuit.specs.Closed.{IsClosed}
use Rattle.sg_circuit.specs.Seen.{circuit_seen, scope_seen}
use Rattle.sg_circuit.specs.declared.scopes.Scope as code_scope
use Rattle.sdf_meaning.specs.MeantSeen.{view_kind}
use Rattle.sdf_tree.specs.declared.tree.CellCheck as code_check
use Rattle.sdf_tree.specs.declared.tree.EntryKind.{EntryKind}
use Rattle.sdf_tree.specs.declared.tree.EntryKind.TheVariants as kind
use Rattle.sdf_tree.specs.declared.words.Divider.{Divider}
use Rattle.sdf_tree.specs.Meant.{Sdf, CellCheck, a_check}
use Rattle.annotation_model.specs.Given.{Given}
use Rattle.annotation_model.specs.Scopes.{is_of_cell}
use Rattle.annotation_model.specs.Ports.{has}
use Rattle.annotation_model.specs.Listed.{IsListOf}
use Rattle.annotation_model.specs.Spots.{spots, is_for_spot, all_checked, is_for_check}
use Rattle.annotation_model.specs.Finding.{no_spot, no_check, spot_at, check_at, is_found_spot, is_found_check}
use Rattle.annotation_index.specs.Candidates.{Lookups, AreOf, AreOfCell, spots_for, checks_for}
use Rattle.annotation_index.specs.Picking.{ArePicked}
use Rattle.annotation_index.proofs.CandidateLaws.{spots-within, checks-within, each_spot, each_check}
use Rattle.annotation_index.proofs.PickLaws.{picked_all}
use Rattle.annotation_index.proofs.SourceLaws.{source_down}
use Rattle.annotation_places.specs.Places.{lookups_of}
use Rattle.annotation_places.specs.declared.places.Places as code_places
use Rattle.annotation_scopes.specs.declared.cells.CellScopes as code_scopes
use Rattle.annotation_scopes.specs.Cells.{AreScopesOf}
use Rattle.annotation_finder.specs.Checks.{SoughtTerminals, terminals_for, check_candidates, check_fits, check_passes}
use Rattle.annotation_finder.specs.Finding.{is_marked}
use Rattle.annotation_finder.specs.Fitting.{candidates, spot_fits, spot_passes}
use Rattle.annotation_finder.specs.Sought.{Search, search_for}
use Rattle.annotation_finder.proofs.CheckLaws.{same_check, other_check, IsOther}
use Rattle.annotation_finder.proofs.SearchLaws.{same_candidates, same_spot}

-- what is picked by a test is picked by one that says the same
picked-same : (p q : ℕ → Bool) (seen : List ℕ) (marks : List Bool) (found : List ℕ) → ((k : ℕ) → p k ≡ q k) → ArePicked p seen marks found → ArePicked q seen marks found
picked-same p q seen marks found same h = record {
  marked = λ k. h.marked k ∙ ap (λ b. has k seen && b) (same k);
  each = λ k. h.each k ∙ ap (λ b. if has k seen && b then 1 else 0) (same k);
}

-- tests of places are compared where the places are
both-below : (k n : ℕ) (a b : Bool) → (k < n → a ≡ b) → (nat_lt k n && a) ≡ (nat_lt k n && b)
both-below k n a b h = by (nat_lt k n) refl
  where
    below : nat_lt k n ≡ true → k < n
    below e = grind (arith, nat_tests)

    by : (t : Bool) → nat_lt k n ≡ t → (t && a) ≡ (t && b)
    by true e = h (below e)
    by false e = refl

module _ (c : Circuit) (sdf : Sdf) (g : Given) (l : Lookups) (closed : IsClosed c) (of_circuit : AreOf c l) (cell : List Bool) (scopes : List ℕ)
    (marked : (t : ℕ) → slice_index_or cell t false ≡ has t scopes) (of_cell : AreOfCell c sdf.divider g scopes) where
  in-cell : (s : ℕ) → s < length c.scopes → is_marked cell s ≡ is_of_cell c sdf.divider g.cell_type g.instance s
  in-cell s m = marked s ∙ of_cell s m

  same_spot_test : (k : ℕ) → spot_passes c l cell (search_for sdf.divider g.entry.kind) k ≡ is_found_spot c sdf g k
  same_spot_test k = both-below k (length (spots c)) (spot_fits c l (is_marked cell) (search_for sdf.divider g.entry.kind) (spot_at c k)) (is_for_spot c sdf.divider g (spot_at c k))
      (λ m. same_spot c sdf.divider l closed g (is_marked cell) in-cell (source_down c l of_circuit sdf.divider) (spot_at c k)
      (spots-within (length c.scopes) c.elements closed.element_scopes k no_spot m))

  pub spots_found : (search : Search) (seen found : List ℕ) (marks : List Bool) → search ≡ search_for sdf.divider g.entry.kind → seen ≡ candidates c l search scopes
      → ArePicked (spot_passes c l cell search) seen marks found → IsListOf (is_found_spot c sdf g) found
  spots_found search seen found marks e f h =
      picked_all (is_found_spot c sdf g) (spots_for c sdf.divider l g.entry.kind scopes) marks found (each_spot c sdf g l closed of_circuit scopes of_cell)
      (subst (λ ks. ArePicked (is_found_spot c sdf g) ks marks found) (f ∙ (ap (λ s. candidates c l s scopes) e ∙ same_candidates c sdf.divider l g.entry.kind scopes))
      (picked-same (spot_passes c l cell search) (is_found_spot c sdf g) seen marks found (λ k. ap (λ s. spot_passes c l cell s k) e ∙ same_spot_test k) h))

  module _ (check : CellCheck) (kind : g.entry.kind ≡ a_check check) where
    same_check_test : (k : ℕ) → check_passes c cell check (terminals_for sdf.divider check) k ≡ is_found_check c sdf g k
    same_check_test k =
        both-below k (length (all_checked c)) (check_fits c (is_marked cell) check (terminals_for sdf.divider check) (check_at c k)) (is_for_check c sdf.divider g (check_at c k))
        (λ m. same_check c sdf.divider g check (is_marked cell) (check_at c k) kind
        (in-cell (check_at c k).check.scope (checks-within (length c.scopes) c.checks c.check_timings c.check_conditions closed.check_scopes k no_check m)))

    pub checks_found : (terminals : SoughtTerminals) (seen found : List ℕ) (marks : List Bool) → terminals ≡ terminals_for sdf.divider check
        → seen ≡ check_candidates c l terminals.refer.port scopes → ArePicked (check_passes c cell check terminals) seen marks found → IsListOf (is_found_check c sdf g) found
    checks_found terminals seen found marks e f h =
        picked_all (is_found_check c sdf g) (checks_for c sdf.divider l g.entry.kind scopes) marks found (each_check c sdf g l closed of_circuit scopes of_cell)
        (subst (λ ks. ArePicked (is_found_check c sdf g) ks marks found)
        (f ∙ (ap (λ (t : SoughtTerminals). check_candidates c l t.refer.port scopes) e ∙ ap (λ k. checks_for c sdf.divider l k scopes) (sym kind)))
        (picked-same (check_passes c cell check terminals) (is_found_check c sdf g) seen marks found (λ k. ap (λ t. check_passes c cell check t k) e ∙ same_check_test k) h))

-- an entry of something else is for no timing check
pub no_checks : (c : Circuit) (sdf : Sdf) (g : Given) → IsOther g.entry.kind → IsListOf (is_found_check c sdf g) []
no_checks c sdf g h = record { each = λ k. sym (ap (λ b. counted (nat_lt k (length (all_checked c)) && b)) (other_check c sdf.divider g g.entry.kind (check_at c k) h) ∙ ap counted (and-false (nat_lt k (length (all_checked c))))) }
  where
    counted : Bool → ℕ
    counted b = if b then 1 else 0

-- the scopes that the code has of a cell are the cell's
pub of_cell_in : (places : code_places.Places) (sdf : Sdf) (g : Given) (scopes : code_scopes.CellScopes) → AreScopesOf places sdf.divider g.cell_type g.instance scopes
    → AreOfCell (circuit_seen places.parts.now) sdf.divider g scopes.list.items
of_cell_in places sdf g scopes are s m =
    are.each s (let n = length-map places.parts.now.scopes.items (λ (x : code_scope.Scope). scope_seen x) in omega (arith, n, m))

-- an entry's check, in a file of a divider
pub checks_told : (places : code_places.Places) (scopes : code_scopes.CellScopes) (divider : Divider) (check : CellCheck) (sdf : Sdf) (g : Given) → IsClosed (circuit_seen places.parts.now)
    → AreOf (circuit_seen places.parts.now) (lookups_of places) → ((t : ℕ) → slice_index_or scopes.marks.items t false ≡ has t scopes.list.items) → (terminals : SoughtTerminals) (seen found : List ℕ) (marks : List Bool)
    → terminals ≡ terminals_for divider check → seen ≡ check_candidates (circuit_seen places.parts.now) (lookups_of places) terminals.refer.port scopes.list.items
    → ArePicked (check_passes (circuit_seen places.parts.now) scopes.marks.items check terminals) seen marks found → sdf.divider ≡ divider → g.entry.kind ≡ a_check check
    → AreScopesOf places divider g.cell_type g.instance scopes → IsListOf (is_found_check (circuit_seen places.parts.now) sdf g) found
checks_told places scopes divider check sdf g closed of_circuit marked terminals seen found marks e f h d kind are =
    checks_found (circuit_seen places.parts.now) sdf g (lookups_of places) closed of_circuit scopes.marks.items scopes.list.items marked
    (of_cell_in places sdf g scopes (subst (λ x. AreScopesOf places x g.cell_type g.instance scopes) (sym d) are)) check kind terminals seen found marks
    (e ∙ ap (λ x. terminals_for x check) (sym d)) f h

pub other_kind : (k : EntryKind) → ((check : code_check.CellCheck) → k ≡ kind.Check check → ⊥) → IsOther (view_kind k)
other_kind (kind.Check check) h = h check refl
other_kind (kind.IoPath condition from to delays) h = tt
other_kind (kind.Device output delays) h = tt
other_kind (kind.Port port delays) h = tt
other_kind (kind.Interconnect from to delays) h = tt
other_kind (kind.PathPulse percent ports reject error) h = tt
other_kind (kind.Skipped skipped) h = tt
