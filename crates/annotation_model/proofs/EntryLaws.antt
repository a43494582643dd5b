-- What one entry makes of the tables, by the lists of the places that it is for.
use Rattle.std.specs.Prelude.{◌≡◌, refl, ℕ, ℤ, suc, zero, ◌<◌, ◌&&◌, ◌||◌, nat_lt, Bool, true, false, List, [], ◌∷◌, ◌++◌, length, map, slice_index_or, slice_set}
use Rattle.std.specs.List.{list_any}
use Rattle.std.proofs.Common.{ap, ◌∙◌}
use Rattle.std.proofs.Math.Bool.{and-true}
use Rattle.std.proofs.lemmas.Bool.{and_parts}
use Rattle.std.proofs.lemmas.List.{get_or-map}
use Rattle.sg_delay.specs.declared.corners.Corner.{Corner}
use Rattle.sg_circuit.specs.Circuit.{Circuit}
use Rattle.sdf_tree.specs.Meant.{Sdf}
use Rattle.annotation_model.specs.Given.{Given}
use Rattle.annotation_model.specs.Listed.{occurrences, IsListOf, written}
use Rattle.annotation_model.specs.Passes.{meets_large}
use Rattle.annotation_model.specs.Spots.{spots, spot_after, is_for_spot, applied_at, is_large_at, timings_of}
use Rattle.annotation_model.specs.Spots.{all_checked, is_for_check, limits_with, limits_after, is_limit_large_at}
use Rattle.annotation_model.specs.Finding.{no_spot, no_check, spot_at, check_at, is_found_spot, is_found_check}
use Rattle.annotation_model.specs.Annotated.{is_for_something}
use Rattle.annotation_model.proofs.TableLaws.{table-more, below_if}
use Rattle.annotation_model.proofs.AnyLaws.{any_listed, counted}
use Rattle.annotation_model.proofs.PassLaws.{meets_once, listed_once, any_alike}

-- past the end too
pub at-map : {X Y : Type 0} (f : X → Y) (xs : List X) (k : ℕ) (d : X) → slice_index_or (map f xs) k (f d) ≡ f (slice_index_or xs k d)
at-map f [] zero d = refl
at-map f [] (suc k) d = refl
at-map f (x ∷ xs) zero d = refl
at-map f (x ∷ xs) (suc k) d = at-map f xs k d

pub writes_alike : {A : Type 0} (f g : ℕ → A → A) (d : A) (ks : List ℕ) (xs : List A) → ((k : ℕ) (v : A) → f k v ≡ g k v) → written f d ks xs ≡ written g d ks xs
writes_alike f g d [] xs h = refl
writes_alike f g d (k ∷ ks) xs h =
    ap (λ v. written f d ks (slice_set xs k v)) (h k (slice_index_or xs k d)) ∙ writes_alike f g d ks (slice_set xs k (g k (slice_index_or xs k d))) h

pub any-same : {X : Type 0} (p q : X → Bool) (xs : List X) → ((x : X) → p x ≡ q x) → list_any p xs ≡ list_any q xs
any-same p q [] h = refl
any-same p q (x ∷ xs) h = ap (λ b. b || list_any p xs) (h x) ∙ ap (λ b. q x || b) (any-same p q xs h)

abbrev pub is_some_listed : List ℕ → Bool
is_some_listed [] = false
is_some_listed (k ∷ ks) = true

some-listed : (ks : List ℕ) → is_some_listed ks ≡ list_any (λ k. true) ks
some-listed [] = refl
some-listed (k ∷ ks) = refl

module _ (c : Circuit) (sdf : Sdf) (corner : Corner) (done : List Given) (g : Given) where
  -- what is in the list is one of the places
  pub spot-in : (ks : List ℕ) → IsListOf (is_found_spot c sdf g) ks → (k : ℕ) → 0 < occurrences k ks → k < length (spots c)
  spot-in ks is k l =
      let found : is_found_spot c sdf g k ≡ true = counted (is_found_spot c sdf g k) (occurrences k ks) (is.each k) l in
      below_if k (length (spots c)) (and_parts (nat_lt k (length (spots c))) (is_for_spot c sdf.divider g (spot_at c k)) found).0

  pub spots-more : (ks : List ℕ) → IsListOf (is_found_spot c sdf g) ks
      → written (λ k ts. applied_at c sdf corner g (spot_at c k) ts) [] ks (map (spot_after c sdf corner done) (spots c)) ≡ map (spot_after c sdf corner (done ++ g ∷ [])) (spots c)
  spots-more ks is = table-more (λ h spot. is_for_spot c sdf.divider h spot) (λ h spot ts. applied_at c sdf corner h spot ts) timings_of (spots c) done g ks no_spot [] is

  pub checks-more : (ks : List ℕ) → IsListOf (is_found_check c sdf g) ks
      → written (λ k ls. limits_with c sdf corner g (check_at c k) ls) [] ks (map (limits_after c sdf corner done) (all_checked c)) ≡ map (limits_after c sdf corner (done ++ g ∷ [])) (all_checked c)
  checks-more ks is = table-more (λ h k. is_for_check c sdf.divider h k) (λ h k ls. limits_with c sdf corner h k ls) (λ k. k.timing.limits) (all_checked c) done g ks no_check [] is

  pub spots-large : (ks : List ℕ) → IsListOf (is_found_spot c sdf g) ks
      → meets_large (λ k ts. is_large_at c sdf corner g (spot_at c k) ts) (λ k ts. applied_at c sdf corner g (spot_at c k) ts) [] ks (map (spot_after c sdf corner done) (spots c))
      ≡ list_any (λ spot. is_for_spot c sdf.divider g spot && is_large_at c sdf corner g spot (spot_after c sdf corner done spot)) (spots c)
  spots-large ks is =
      meets_once (λ k ts. is_large_at c sdf corner g (spot_at c k) ts) (λ k ts. applied_at c sdf corner g (spot_at c k) ts) [] ks
      (map (spot_after c sdf corner done) (spots c)) (listed_once (is_found_spot c sdf g) ks is)
      ∙ (any_alike (λ k. is_large_at c sdf corner g (spot_at c k) (slice_index_or (map (spot_after c sdf corner done) (spots c)) k []))
      (λ k. is_large_at c sdf corner g (spot_at c k) (spot_after c sdf corner done (spot_at c k))) ks
      (λ k l. ap (λ ts. is_large_at c sdf corner g (spot_at c k) ts) (get_or-map (spot_after c sdf corner done) (spots c) k no_spot [] (spot-in ks is k l)))
      ∙ any_listed (λ spot. is_for_spot c sdf.divider g spot) (λ spot. is_large_at c sdf corner g spot (spot_after c sdf corner done spot)) (spots c) no_spot ks is)

  pub checks-large : (ks : List ℕ) → IsListOf (is_found_check c sdf g) ks
      → meets_large (λ k ls. is_limit_large_at c sdf corner g (check_at c k)) (λ k ls. limits_with c sdf corner g (check_at c k) ls) [] ks (map (limits_after c sdf corner done) (all_checked c))
      ≡ list_any (λ k. is_for_check c sdf.divider g k && is_limit_large_at c sdf corner g k) (all_checked c)
  checks-large ks is =
      meets_once (λ k (ls : List ℤ). is_limit_large_at c sdf corner g (check_at c k)) (λ k ls. limits_with c sdf corner g (check_at c k) ls) [] ks
      (map (limits_after c sdf corner done) (all_checked c)) (listed_once (is_found_check c sdf g) ks is)
      ∙ any_listed (λ k. is_for_check c sdf.divider g k) (λ k. is_limit_large_at c sdf corner g k) (all_checked c) no_check ks is

  -- an entry is for something where one of the two lists has a place
  pub something : (ks ls : List ℕ) → IsListOf (is_found_spot c sdf g) ks → IsListOf (is_found_check c sdf g) ls → (is_some_listed ks || is_some_listed ls) ≡ is_for_something c sdf g
  something ks ls one two = ap (λ b. b || is_some_listed ls) spot ∙ ap (λ b. list_any (λ s. is_for_spot c sdf.divider g s) (spots c) || b) check
    where
      spot : is_some_listed ks ≡ list_any (λ s. is_for_spot c sdf.divider g s) (spots c)
      spot = some-listed ks
          ∙ (any_listed (λ s. is_for_spot c sdf.divider g s) (λ s. true) (spots c) no_spot ks one
          ∙ any-same (λ s. is_for_spot c sdf.divider g s && true) (λ s. is_for_spot c sdf.divider g s) (spots c) (λ s. and-true (is_for_spot c sdf.divider g s)))

      check : is_some_listed ls ≡ list_any (λ k. is_for_check c sdf.divider g k) (all_checked c)
      check = some-listed ls
          ∙ (any_listed (λ k. is_for_check c sdf.divider g k) (λ k. true) (all_checked c) no_check ls two
          ∙ any-same (λ k. is_for_check c sdf.divider g k && true) (λ k. is_for_check c sdf.divider g k) (all_checked c) (λ k. and-true (is_for_check c sdf.divider g k)))
