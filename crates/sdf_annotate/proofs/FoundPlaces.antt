-- The places that an entry is for are in the tables.
use Rattle.std.specs.Prelude.{◌≡◌, ℕ, ◌<◌, nat_lt, All, List, length, slice_index_or}
use Rattle.std.proofs.Common.{ap, sym, ◌∙◌, subst}
use Rattle.std.proofs.lemmas.Bool.{and_parts}
use Rattle.sg_circuit.specs.Circuit.{Circuit}
use Rattle.sdf_tree.specs.Meant.{Sdf}
use Rattle.annotation_model.specs.Finding.{check_at, is_found_check, is_found_spot, spot_at}
use Rattle.annotation_model.specs.Given.{Given}
use Rattle.annotation_model.specs.Listed.{IsListOf, occurrences}
use Rattle.annotation_model.specs.Spots.{all_checked, is_for_check, is_for_spot, spots}
use Rattle.annotation_model.proofs.AnyLaws.{counted}
use Rattle.annotation_model.proofs.ListedLaws.{occurs_at}
use Rattle.annotation_model.proofs.TableLaws.{below_if}

module _ (c : Circuit) (sdf : Sdf) (g : Given) where
  pub spots-below : (ks : List ℕ) → IsListOf (is_found_spot c sdf g) ks → All (λ k. k < length (spots c)) ks
  spots-below ks is = λ i d l.
      let k : ℕ = slice_index_or ks i d in
      below_if k (length (spots c)) (and_parts (nat_lt k (length (spots c))) (is_for_spot c sdf.divider g (spot_at c k)) (counted (is_found_spot c sdf g k) (occurrences k ks) (is.each k) (occurs_at ks i d l))).0

  pub checks-below : (ks : List ℕ) → IsListOf (is_found_check c sdf g) ks → All (λ k. k < length (all_checked c)) ks
  checks-below ks is = λ i d l.
      let k : ℕ = slice_index_or ks i d in
      below_if k (length (all_checked c)) (and_parts (nat_lt k (length (all_checked c))) (is_for_check c sdf.divider g (check_at c k)) (counted (is_found_check c sdf g k) (occurrences k ks) (is.each k) (occurs_at ks i d l))).0

-- in tables that were lent
pub below-lent : {X : Type 0} (n : ℕ) (ks found : List ℕ) (table lent : List X) → found ≡ ks → lent ≡ table → length table ≡ n → All (λ k. k < n) ks → All (λ k. k < length lent) found
below-lent n ks found table lent f t l h =
    subst (λ (fs : List ℕ). All (λ k. k < length lent) fs) (sym f) (subst (λ m. All (λ k. k < m) ks) (sym (ap length t ∙ l)) h)
