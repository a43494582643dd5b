-- What is made of the numbers of a scope is what is made of the items there.
use Rattle.std.proofs.Common.{◌≡◌, refl, sym, ◌∙◌, ap, ℕ, Bool, false, List, [], ◌∷◌, ◌++◌, length, map, slice_get}
use Rattle.std.specs.Prelude.{◌==◌, ◌&&◌, All, flat_map}
use Rattle.std.proofs.lemmas.Grind.{flat_map-append}
use Rattle.std.proofs.lemmas.List.{map-append}
use Rattle.std.proofs.lemmas.List.Elements.{All-append, All-head, All-nil, All-tail}
use Rattle.std.proofs.lemmas.Option.{slice_get_read}
use Rattle.late_limits.specs.Grouping.{pins_by}
use Rattle.sg_circuit.specs.Pins.{elements_on}
use Rattle.written_entries.proofs.GroupLaws.{gathered_all, all_gathered}
use Rattle.written_faults.specs.Ambiguities.{of_item}

pub flat-flat : {A B C : Type 0} (g : B → List C) (f : A → List B) (xs : List A) → flat_map g (flat_map f xs) ≡ flat_map (λ x. flat_map g (f x)) xs
flat-flat g f [] = refl
flat-flat g f (x ∷ xs) = flat_map-append g (f x) (flat_map f xs) ∙ ap (λ ys. flat_map g (f x) ++ ys) (flat-flat g f xs)

pub flat-same : {A B : Type 0} (f g : A → List B) (xs : List A) → ((x : A) → f x ≡ g x) → flat_map f xs ≡ flat_map g xs
flat-same f g [] h = refl
flat-same f g (x ∷ xs) h = ap (λ y. y ++ flat_map f xs) (h x) ∙ ap (λ ys. g x ++ ys) (flat-same f g xs h)

flat-alike : {A B : Type 0} (f g : A → List B) (xs : List A) → All (λ x. f x ≡ g x) xs → flat_map f xs ≡ flat_map g xs
flat-alike f g [] h = refl
flat-alike f g (x ∷ xs) h = ap (λ y. y ++ flat_map f xs) (All-head (λ x. f x ≡ g x) x xs h) ∙ ap (λ ys. g x ++ ys) (flat-alike f g xs (All-tail (λ x. f x ≡ g x) x xs h))

pub flat-none : {A B : Type 0} (f : A → List B) (xs : List A) → All (λ x. f x ≡ []) xs → flat_map f xs ≡ []
flat-none f [] h = refl
flat-none f (x ∷ xs) h = ap (λ ys. ys ++ flat_map f xs) (All-head (λ y. f y ≡ []) x xs h) ∙ flat-none f xs (All-tail (λ y. f y ≡ []) x xs h)

pub flat-mapped : {A B C : Type 0} (g : B → C) (f : A → List B) (xs : List A) → flat_map (λ x. map g (f x)) xs ≡ map g (flat_map f xs)
flat-mapped g f [] = refl
flat-mapped g f (x ∷ xs) = ap (λ ys. map g (f x) ++ ys) (flat-mapped g f xs) ∙ sym (map-append g (f x) (flat_map f xs))

pub all-flat : {A B : Type 0} (P : B → Type 0) (f : A → List B) (xs : List A) → All (λ x. All P (f x)) xs → All P (flat_map f xs)
all-flat P f [] h = All-nil P
all-flat P f (x ∷ xs) h = All-append P (f x) (flat_map f xs) (All-head (λ y. All P (f y)) x xs h) (all-flat P f xs (All-tail (λ y. All P (f y)) x xs h))

module _ {A B : Type 0} (key : A → ℕ) (test : A → Bool) (s : ℕ) (xs : List A) (item f : A → List B) (alike : (x : A) → key x ≡ s → item x ≡ f x) (none : (x : A) → ((key x == s) && test x) ≡ false → f x ≡ []) where
  pub gathered_items : flat_map (λ k. of_item item (slice_get xs k)) (elements_on s (pins_by key test 0 xs)) ≡ flat_map f xs
  gathered_items =
      flat-alike (λ k. of_item item (slice_get xs k)) (λ k. of_item f (slice_get xs k)) (elements_on s (pins_by key test 0 xs))
      (all_gathered key test s (λ k. of_item item (slice_get xs k) ≡ of_item f (slice_get xs k)) xs (λ i x l at same.
      ap (of_item item) (slice_get_read xs (length xs) i x refl l at) ∙ (alike x same ∙ sym (ap (of_item f) (slice_get_read xs (length xs) i x refl l at)))))
      ∙ gathered_all key test s (λ k. of_item f (slice_get xs k)) f xs (λ i x l at. ap (of_item f) (slice_get_read xs (length xs) i x refl l at)) none
