-- The first fault of parts that are looked at one after another.
use Rattle.std.proofs.Common.{◌≡◌, ◌∙◌, sym, ap, refl, ℕ, suc, ◌<◌, ◌≤◌, Bool, List, ◌∷◌, ◌++◌, length, map, drop, drop-cons, Option, Some, None}
use Rattle.std.specs.Prelude.{slice_index_or}
use Rattle.std.specs.List.{flat_map, find}
use Rattle.std.specs.Option.{option_map, option_or}
use Rattle.std.proofs.lemmas.List.{drop_all}
use Rattle.std.proofs.lemmas.List.Folds.{find-append}
use Rattle.sg_text.specs.declared.places.Place.{Place}
use Rattle.sdf_tree.specs.Faults.{is_bad, crosses, Crossing}
use Rattle.sdf_tree.specs.Written.{Number}
use Rattle.sdf_meaning.specs.FirstFaults.{first_place, bad_number, crossing}

module _ {A : Type 0} (is_fault : A → Bool) (place : A → Place) where
  pub first_of_both : (xs ys : List A) → first_place is_fault place (xs ++ ys) ≡ option_or (first_place is_fault place xs) (first_place is_fault place ys)
  first_of_both xs ys = ap (option_map place) (find-append is_fault xs ys) ∙ by (find is_fault xs)
    where
      by : (o : Option A) → option_map place (option_or o (find is_fault ys)) ≡ option_or (option_map place o) (first_place is_fault place ys)
      by None = refl
      by (Some x) = refl

  module _ {X Y : Type 0} (faults : Y → List A) (view : X → Y) where
    abbrev pub first_in : List X → Option Place
    first_in xs = first_place is_fault place (flat_map faults (map view xs))

    -- the first of what is left is that of the next part, or of those behind it
    one_part : (xs : List X) (i : ℕ) (x : X) → i < length xs → x ≡ slice_index_or xs i x → first_in (drop i xs) ≡ option_or (first_place is_fault place (faults (view x))) (first_in (drop (suc i) xs))
    one_part xs i x lt is =
        ap (λ (ys : List X). first_in ys) (drop-cons xs i x lt ∙ ap (λ (y : X). y ∷ drop (suc i) xs) (sym is)) ∙ first_of_both (faults (view x)) (flat_map faults (map view (drop (suc i) xs)))

    pub part_has : (xs : List X) (i : ℕ) (x : X) (found all : Option Place) (p : Place) → i < length xs → x ≡ slice_index_or xs i x → found ≡ first_place is_fault place (faults (view x)) → found ≡ Some p → first_in (drop i xs) ≡ all → Some p ≡ all
    part_has xs i x found all p lt is e some so_far =
        sym (ap (λ (o : Option Place). option_or o (first_in (drop (suc i) xs))) (sym e ∙ some)) ∙ (sym (one_part xs i x lt is) ∙ so_far)

    pub part_has_none : (xs : List X) (i : ℕ) (x : X) (found all : Option Place) → i < length xs → x ≡ slice_index_or xs i x → found ≡ first_place is_fault place (faults (view x)) → found ≡ None → first_in (drop i xs) ≡ all → first_in (drop (suc i) xs) ≡ all
    part_has_none xs i x found all lt is e none so_far =
        sym (ap (λ (o : Option Place). option_or o (first_in (drop (suc i) xs))) (sym e ∙ none)) ∙ (sym (one_part xs i x lt is) ∙ so_far)

    pub none_has : (xs : List X) (i : ℕ) (all : Option Place) → length xs ≤ i → first_in (drop i xs) ≡ all → None ≡ all
    none_has xs i all le so_far = sym (ap (λ (ys : List X). first_in ys) (drop_all i xs le)) ∙ so_far

pub bad_behind : (xs ys : List Number) → option_or (bad_number xs) (bad_number ys) ≡ bad_number (xs ++ ys)
bad_behind xs ys = sym (first_of_both is_bad (λ n. n.place) xs ys)

pub crossing_behind : (xs ys : List Crossing) → option_or (crossing xs) (crossing ys) ≡ crossing (xs ++ ys)
crossing_behind xs ys = sym (first_of_both crosses (λ c. c.place) xs ys)
