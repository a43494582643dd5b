-- Lists whose items are taken one after another, and what is kept of them.
use Rattle.std.proofs.Common.{◌≡◌, ◌∙◌, sym, ap, refl, List, [], ◌∷◌, ◌++◌, length, map, append_assoc, arith}
use Rattle.std.proofs.lemmas.List.{append-nil}
use Rattle.std.specs.Prelude.{Some}
use Rattle.std.specs.List.{flat_map}
use Rattle.std.specs.Vec.Iter.{into_iter_items, into_iter_len, into_iter_steps}
use Rattle.std.specs.declared.vec.IntoIter.{IntoIter}

empty_list : {X : Type 0} (xs : List X) → length xs ≡ 0 → xs ≡ []
empty_list [] e = refl
empty_list (x ∷ xs) e = absurd (omega arith)

-- where none is left
pub none_left : {X Z : Type 0} (s : IntoIter X Z) → into_iter_len s ≡ 0 → into_iter_items s ≡ []
none_left s e = empty_list (into_iter_items s) (sym s.rest.ok.0 ∙ e)

-- each item gives a list
module _ {X Y A Z : Type 0} (gives : Y → List A) (view : X → Y) where
  pub lists_begin : (s : IntoIter X Z) (xs : List X) (kept : List A) → into_iter_items s ≡ xs → kept ++ flat_map gives (map view (into_iter_items s)) ≡ kept ++ flat_map gives (map view xs)
  lists_begin s xs kept e = ap (λ l. kept ++ flat_map gives (map view l)) e

  pub lists_go_on : (s t : IntoIter X Z) (kept more all : List A) (x : X) → into_iter_steps s (Some x) t → more ≡ kept ++ gives (view x) → kept ++ flat_map gives (map view (into_iter_items s)) ≡ all
      → more ++ flat_map gives (map view (into_iter_items t)) ≡ all
  lists_go_on s t kept more all x step added so_far =
      ap (λ l. l ++ flat_map gives (map view (into_iter_items t))) added
      ∙ (append_assoc kept (gives (view x)) (flat_map gives (map view (into_iter_items t)))
      ∙ (ap (λ l. kept ++ flat_map gives (map view l)) (sym step.0) ∙ so_far))

  pub lists_end : (s : IntoIter X Z) (kept all : List A) → into_iter_len s ≡ 0 → kept ++ flat_map gives (map view (into_iter_items s)) ≡ all → kept ≡ all
  lists_end s kept all none so_far = sym (append-nil kept) ∙ (ap (λ l. kept ++ flat_map gives (map view l)) (sym (none_left s none)) ∙ so_far)

-- each item gives one
module _ {X Y A Z : Type 0} (gives : Y → A) (view : X → Y) where
  pub items_begin : (s : IntoIter X Z) (xs : List X) (kept : List A) → into_iter_items s ≡ xs → kept ++ map gives (map view (into_iter_items s)) ≡ kept ++ map gives (map view xs)
  items_begin s xs kept e = ap (λ l. kept ++ map gives (map view l)) e

  pub items_go_on : (s t : IntoIter X Z) (kept more all : List A) (x : X) → into_iter_steps s (Some x) t → more ≡ kept ++ gives (view x) ∷ [] → kept ++ map gives (map view (into_iter_items s)) ≡ all
      → more ++ map gives (map view (into_iter_items t)) ≡ all
  items_go_on s t kept more all x step added so_far =
      ap (λ l. l ++ map gives (map view (into_iter_items t))) added
      ∙ (append_assoc kept (gives (view x) ∷ []) (map gives (map view (into_iter_items t)))
      ∙ (ap (λ l. kept ++ map gives (map view l)) (sym step.0) ∙ so_far))

  pub items_end : (s : IntoIter X Z) (kept all : List A) → into_iter_len s ≡ 0 → kept ++ map gives (map view (into_iter_items s)) ≡ all → kept ≡ all
  items_end s kept all none so_far = sym (append-nil kept) ∙ (ap (λ l. kept ++ map gives (map view l)) (sym (none_left s none)) ∙ so_far)
