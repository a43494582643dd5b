-- The entries of a cell, and the cells of a file, one after another.
use Rattle.std.specs.Prelude.{◌≡◌, refl, ℕ, ◌+◌, ◌<◌, ◌≤◌, List, [], ◌∷◌, ◌++◌, length, map, take, drop, slice_index_or}
use Rattle.std.specs.List.{flat_map}
use Rattle.std.proofs.Common.{ap, sym, ◌∙◌, subst}
use Rattle.std.proofs.lemmas.List.{append_assoc, append-nil, take_more, drop_more, take-append-drop, take_all, map-append}
use Rattle.sg_delay.specs.declared.corners.Corner.{Corner}
use Rattle.sg_circuit.specs.Circuit.{Circuit}
use Rattle.sdf_tree.specs.Meant.{Sdf}
use Rattle.annotation_model.specs.Given.{Given}
use Rattle.annotation_model.proofs.ProgressLaws.{large-before, large-more}
pub use Rattle.sdf_annotate.specs.AppliedLaws.{came-more, came-none}
use Rattle.sdf_annotate.specs.Progress.{CameTo, StoppedAt}
use Rattle.sdf_annotate.specs.declared.unmatched.AnnotError.{AnnotError}
use Rattle.sdf_annotate.specs.declared.unmatched.AnnotError.TheVariants.{TooLarge, NoMemory}
use Rattle.sdf_annotate.specs.declared.values.NewValues.{NewValues}

module _ {X : Type 0} (seen : X → Given) where
  pub front-more : (xs : List X) (i : ℕ) (x d : X) → i < length xs → x ≡ slice_index_or xs i d → map (λ e. seen e) (take (i + 1) xs) ≡ map (λ e. seen e) (take i xs) ++ seen x ∷ []
  front-more xs i x d l is =
      ap (λ ys. map (λ e. seen e) ys) (take_more xs i d l) ∙ (map-append (λ e. seen e) (take i xs) (slice_index_or xs i d ∷ []) ∙ ap (λ y. map (λ e. seen e) (take i xs) ++ seen y ∷ []) (sym is))

  pub all-split : (xs : List X) (i : ℕ) (x d : X) → i < length xs → x ≡ slice_index_or xs i d
      → map (λ e. seen e) xs ≡ map (λ e. seen e) (take i xs) ++ (seen x ∷ map (λ e. seen e) (drop (i + 1) xs))
  all-split xs i x d l is =
      ap (λ ys. map (λ e. seen e) ys) (sym (take-append-drop i xs) ∙ ap (λ ys. take i xs ++ ys) (drop_more xs i d l))
      ∙ (map-append (λ e. seen e) (take i xs) (slice_index_or xs i d ∷ drop (i + 1) xs) ∙ ap (λ y. map (λ e. seen e) (take i xs) ++ (seen y ∷ map (λ e. seen e) (drop (i + 1) xs))) (sym is))

module _ {X : Type 0} (f : X → List Given) where
  flat-append : (xs ys : List X) → flat_map f (xs ++ ys) ≡ flat_map f xs ++ flat_map f ys
  flat-append [] ys = refl
  flat-append (x ∷ xs) ys = ap (λ zs. f x ++ zs) (flat-append xs ys) ∙ sym (append_assoc (f x) (flat_map f xs) (flat_map f ys))

  one-flat : (x : X) → flat_map f (x ∷ []) ≡ f x
  one-flat x = append-nil (f x)

  pub flat-more : (xs : List X) (i : ℕ) (x d : X) → i < length xs → x ≡ slice_index_or xs i d → flat_map f (take (i + 1) xs) ≡ flat_map f (take i xs) ++ f x
  flat-more xs i x d l is =
      ap (flat_map f) (take_more xs i d l) ∙ (flat-append (take i xs) (slice_index_or xs i d ∷ []) ∙ ap (λ ys. flat_map f (take i xs) ++ ys) (one-flat (slice_index_or xs i d) ∙ ap f (sym is)))

  pub flat-split : (xs : List X) (i : ℕ) (x d : X) → i < length xs → x ≡ slice_index_or xs i d → flat_map f xs ≡ flat_map f (take i xs) ++ (f x ++ flat_map f (drop (i + 1) xs))
  flat-split xs i x d l is =
      ap (flat_map f) (sym (take-append-drop i xs) ∙ ap (λ ys. take i xs ++ ys) (drop_more xs i d l))
      ∙ (flat-append (take i xs) (slice_index_or xs i d ∷ drop (i + 1) xs) ∙ ap (λ y. flat_map f (take i xs) ++ (f y ++ flat_map f (drop (i + 1) xs))) (sym is))

-- ---- one list of entries behind another

module _ (c : Circuit) (sdf : Sdf) (corner : Corner) where
  pub stopped-more : (xs ys : List Given) (a b : NewValues) (e : AnnotError) → CameTo c sdf corner xs a b → StoppedAt c sdf corner ys b e → StoppedAt c sdf corner (xs ++ ys) a e
  stopped-more xs ys a b NoMemory one two = tt
  stopped-more xs ys a b (TooLarge place) one two = λ done h. large-more c sdf corner done xs ys place (one.fine done h) (two (done ++ xs) (one.tables done h))

  pub stopped-before : (xs ys : List Given) (a : NewValues) (e : AnnotError) → StoppedAt c sdf corner xs a e → StoppedAt c sdf corner (xs ++ ys) a e
  stopped-before xs ys a NoMemory s = tt
  stopped-before xs ys a (TooLarge place) s = λ done h. large-before c sdf corner done xs ys place (s done h)

-- ---- entries that are some of a list

module _ (c : Circuit) (sdf : Sdf) (corner : Corner) where
  -- a front of entries, and those behind it
  pub came-front : (all front more : List Given) (a b d : NewValues) → all ≡ front ++ more → CameTo c sdf corner front a b → CameTo c sdf corner more b d → CameTo c sdf corner all a d
  came-front all front more a b d is one two = subst (λ gs. CameTo c sdf corner gs a d) (sym is) (came-more c sdf corner front more a b d one two)

  pub stopped-front : (all front more rest : List Given) (a b : NewValues) (e : AnnotError) → all ≡ front ++ (more ++ rest) → CameTo c sdf corner front a b → StoppedAt c sdf corner more b e → StoppedAt c sdf corner all a e
  stopped-front all front more rest a b e is one two =
      subst (λ gs. StoppedAt c sdf corner gs a e) (sym is) (stopped-more c sdf corner front (more ++ rest) a b e one (stopped-before c sdf corner more rest b e two))

  -- all of them
  pub came-all : {X : Type 0} (seen : X → Given) (xs : List X) (i : ℕ) (a b : NewValues) → length xs ≤ i → CameTo c sdf corner (map (λ e. seen e) (take i xs)) a b → CameTo c sdf corner (map (λ e. seen e) xs) a b
  came-all {X} seen xs i a b l came = subst (λ (ys : List X). CameTo c sdf corner (map (λ e. seen e) ys) a b) (take_all i xs l) came
