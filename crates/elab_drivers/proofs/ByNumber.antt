-- What drives a net, with and without its place.
use Rattle.std.specs.Prelude.{◌≡◌, ℕ, ◌+◌, ◌<◌, ◌==◌, List, [], ◌∷◌, ◌++◌, Bool, true, false, map, zip, length, refl, cond}
use Rattle.std.specs.List.{AllByRecursion, enumerate_from}
use Rattle.std.proofs.Common.{◌∙◌, ap, arith}
use Rattle.std.proofs.lemmas.List.{map-append}
use Rattle.sg_circuit.specs.declared.nets.Driver.TheVariants.{Element}
use Rattle.sg_text.specs.declared.places.Place.{Place}
use Rattle.circuit_model.specs.Driving.{NetDrive, by_stimulus, by_element, drives_of}
use Rattle.elab_laws.proofs.Lists.{all-append}
use Rattle.elab_numbering.specs.Driving.{NumberedDrive, by_elements, drivers_at}
use Rattle.elab_numbering.specs.Driving as numbered

-- the drives of the stimulus and of elements
abbrev pub by_others : List ℕ → List ℕ → List NumberedDrive
by_others inputs outputs = map numbered.by_stimulus inputs ++ by_elements 0 outputs

abbrev pub placed_inputs : List ℕ → List Place → List NetDrive
placed_inputs inputs places = map by_stimulus (zip places inputs)

abbrev pub placed_outputs : ℕ → List ℕ → List Place → List NetDrive
placed_outputs i outputs places = map by_element (enumerate_from i (zip places outputs))

abbrev pub all_drives : List ℕ → List Place → List ℕ → List Place → List NetDrive
all_drives inputs input_places outputs places = placed_inputs inputs input_places ++ placed_outputs 0 outputs places

-- without its place
abbrev pub number_only : NetDrive → NumberedDrive
number_only d = record { driver = d.driver; net = d.net }

inputs-only : (inputs : List ℕ) (places : List Place) → length places ≡ length inputs → map number_only (placed_inputs inputs places) ≡ map numbered.by_stimulus inputs
inputs-only [] [] l = refl
inputs-only [] (p ∷ places) l = absurd (omega arith)
inputs-only (n ∷ inputs) [] l = absurd (omega arith)
inputs-only (n ∷ inputs) (p ∷ places) l = ap (λ ds. numbered.by_stimulus n ∷ ds) (inputs-only inputs places (omega arith))

outputs-only : (i : ℕ) (outputs : List ℕ) (places : List Place) → length places ≡ length outputs → map number_only (placed_outputs i outputs places) ≡ by_elements i outputs
outputs-only i [] [] l = refl
outputs-only i [] (p ∷ places) l = absurd (omega arith)
outputs-only i (n ∷ outputs) [] l = absurd (omega arith)
outputs-only i (n ∷ outputs) (p ∷ places) l = ap (λ ds. record { driver = Element i; net = n } ∷ ds) (outputs-only (i + 1) outputs places (omega arith))

pub drives-only : (inputs : List ℕ) (input_places : List Place) (outputs : List ℕ) (places : List Place) → length input_places ≡ length inputs → length places ≡ length outputs
    → map number_only (all_drives inputs input_places outputs places) ≡ by_others inputs outputs
drives-only inputs input_places outputs places l m =
    map-append number_only (placed_inputs inputs input_places) (placed_outputs 0 outputs places)
    ∙ ap (λ ds. ds ++ map number_only (placed_outputs 0 outputs places)) (inputs-only inputs input_places l)
    ∙ ap (λ ds. map numbered.by_stimulus inputs ++ ds) (outputs-only 0 outputs places m)

-- who drives a net
pub drivers-only : (k : ℕ) (ds : List NetDrive) → map (λ d. d.driver) (drives_of ds k) ≡ drivers_at k (map number_only ds)
drivers-only k [] = refl
drivers-only k (d ∷ ds) = by (d.net == k) (drivers-only k ds)
  where
    by : (b : Bool) → map (λ d. d.driver) (drives_of ds k) ≡ drivers_at k (map number_only ds)
        → map (λ d. d.driver) (cond b (d ∷ drives_of ds k) (drives_of ds k)) ≡ cond b (d.driver ∷ drivers_at k (map number_only ds)) (drivers_at k (map number_only ds))
    by true h = ap (λ xs. d.driver ∷ xs) h
    by false h = h

-- each of them is one of so many nets
inputs-below : (count : ℕ) (inputs : List ℕ) (places : List Place) → AllByRecursion (λ n. n < count) inputs → AllByRecursion (λ d. d.net < count) (placed_inputs inputs places)
inputs-below count inputs [] h = tt
inputs-below count [] (p ∷ places) h = tt
inputs-below count (n ∷ inputs) (p ∷ places) h = (h.0, inputs-below count inputs places h.1)

outputs-below : (count i : ℕ) (outputs : List ℕ) (places : List Place) → AllByRecursion (λ n. n < count) outputs → AllByRecursion (λ d. d.net < count) (placed_outputs i outputs places)
outputs-below count i outputs [] h = tt
outputs-below count i [] (p ∷ places) h = tt
outputs-below count i (n ∷ outputs) (p ∷ places) h = (h.0, outputs-below count (i + 1) outputs places h.1)

pub drives-below : (count : ℕ) (inputs : List ℕ) (input_places : List Place) (outputs : List ℕ) (places : List Place)
    → AllByRecursion (λ n. n < count) inputs → AllByRecursion (λ n. n < count) outputs → AllByRecursion (λ d. d.net < count) (all_drives inputs input_places outputs places)
drives-below count inputs input_places outputs places h k =
    all-append (λ d. d.net < count) (placed_inputs inputs input_places) (placed_outputs 0 outputs places) (inputs-below count inputs input_places h) (outputs-below count 0 outputs places k)
