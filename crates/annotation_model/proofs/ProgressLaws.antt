-- One entry more, and several.
use Rattle.std.specs.Prelude.{◌≡◌, refl, ℕ, not, Bool, true, false, cond, if◌then◌else◌, List, [], ◌∷◌, ◌++◌, map, Some}
use Rattle.std.specs.List.{filter}
use Rattle.std.proofs.Common.{ap, sym, ◌∙◌}
use Rattle.std.proofs.lemmas.List.{append_assoc, append-nil}
use Rattle.sg_text.specs.declared.places.Place.{Place}
use Rattle.sg_delay.specs.declared.corners.Corner.{Corner}
use Rattle.sg_circuit.specs.Circuit.{Circuit}
use Rattle.sdf_tree.specs.Meant.{Sdf}
use Rattle.annotation_model.specs.Given.{Given}
use Rattle.annotation_model.specs.Annotated.{is_for_something, is_too_large_after, first_too_large, told_of, unmatched_in}
use Rattle.annotation_model.specs.Progress.{AreFine, IsTooLarge}

module _ (c : Circuit) (sdf : Sdf) (corner : Corner) where
  -- ---- what is told

  abbrev pub told_if : Bool → Given → List (Place × List ℕ)
  told_if matched g = if matched then [] else told_of g ∷ []

  pub unmatched-more : (gs : List Given) (g : Given) → unmatched_in c sdf (gs ++ g ∷ []) ≡ unmatched_in c sdf gs ++ told_if (is_for_something c sdf g) g
  unmatched-more [] g = by (is_for_something c sdf g)
    where
      by : (b : Bool) → map told_of (cond (not b) (g ∷ []) []) ≡ told_if b g
      by true = refl
      by false = refl
  unmatched-more (h ∷ gs) g = by (is_for_something c sdf h) (unmatched-more gs g)
    where
      by : (b : Bool) → unmatched_in c sdf (gs ++ g ∷ []) ≡ unmatched_in c sdf gs ++ told_if (is_for_something c sdf g) g
          → map told_of (cond (not b) (h ∷ filter (λ x. not (is_for_something c sdf x)) (gs ++ g ∷ [])) (filter (λ x. not (is_for_something c sdf x)) (gs ++ g ∷ [])))
          ≡ map told_of (cond (not b) (h ∷ filter (λ x. not (is_for_something c sdf x)) gs) (filter (λ x. not (is_for_something c sdf x)) gs)) ++ told_if (is_for_something c sdf g) g
      by true more = more
      by false more = ap (λ xs. told_of h ∷ xs) more

  -- ---- what is too large

  pub fine-none : (done : List Given) → AreFine c sdf corner done []
  fine-none done = record { on = λ rest. ap (λ gs. first_too_large c sdf corner gs rest) (sym (append-nil done)) }

  pub fine-one : (done : List Given) (g : Given) → is_too_large_after c sdf corner done g ≡ false → AreFine c sdf corner done (g ∷ [])
  fine-one done g e = record { on = λ rest. ap (λ b. if b then Some g.entry.place else first_too_large c sdf corner (done ++ g ∷ []) rest) e }

  pub large-one : (done : List Given) (g : Given) → is_too_large_after c sdf corner done g ≡ true → IsTooLarge c sdf corner done (g ∷ []) g.entry.place
  large-one done g e = record { here = λ rest. ap (λ b. if b then Some g.entry.place else first_too_large c sdf corner (done ++ g ∷ []) rest) e }

  pub fine-more : (done one two : List Given) → AreFine c sdf corner done one → AreFine c sdf corner (done ++ one) two → AreFine c sdf corner done (one ++ two)
  fine-more done one two f g = record {
    on = λ rest.
        ap (λ gs. first_too_large c sdf corner done gs) (append_assoc one two rest) ∙ (f.on (two ++ rest) ∙ (g.on rest ∙ ap (λ gs. first_too_large c sdf corner gs rest) (append_assoc done one two)));
  }

  -- behind entries that are fine one is too large: it is the first, whatever follows
  pub large-more : (done one two : List Given) (place : Place) → AreFine c sdf corner done one → IsTooLarge c sdf corner (done ++ one) two place → IsTooLarge c sdf corner done (one ++ two) place
  large-more done one two place f g = record {
    here = λ rest. ap (λ gs. first_too_large c sdf corner done gs) (append_assoc one two rest) ∙ (f.on (two ++ rest) ∙ g.here rest);
  }

  pub large-before : (done one two : List Given) (place : Place) → IsTooLarge c sdf corner done one place → IsTooLarge c sdf corner done (one ++ two) place
  large-before done one two place g = record {
    here = λ rest. ap (λ gs. first_too_large c sdf corner done gs) (append_assoc one two rest) ∙ g.here (two ++ rest);
  }

  pub unmatched-append : (xs ys : List Given) → unmatched_in c sdf (xs ++ ys) ≡ unmatched_in c sdf xs ++ unmatched_in c sdf ys
  unmatched-append [] ys = refl
  unmatched-append (h ∷ xs) ys = by (is_for_something c sdf h) (unmatched-append xs ys)
    where
      by : (b : Bool) → unmatched_in c sdf (xs ++ ys) ≡ unmatched_in c sdf xs ++ unmatched_in c sdf ys
          → map told_of (cond (not b) (h ∷ filter (λ x. not (is_for_something c sdf x)) (xs ++ ys)) (filter (λ x. not (is_for_something c sdf x)) (xs ++ ys)))
          ≡ map told_of (cond (not b) (h ∷ filter (λ x. not (is_for_something c sdf x)) xs) (filter (λ x. not (is_for_something c sdf x)) xs)) ++ unmatched_in c sdf ys
      by true more = more
      by false more = ap (λ zs. told_of h ∷ zs) more
