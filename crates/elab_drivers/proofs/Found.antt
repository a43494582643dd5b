-- An input or an element that drives a net, as a search finds it.
use Rattle.std.specs.Prelude.{◌≡◌, ℕ, ◌+◌, ◌<◌, ◌≤◌, ◌==◌, List, [], ◌∷◌, ◌++◌, Bool, true, false, Option, Some, None, map, length, refl, cond, nat_lt, position, slice_index_or}
use Rattle.std.specs.List.{AllByRecursion, position_or_len}
use Rattle.std.specs.Option.{option_map}
use Rattle.std.proofs.Common.{sym, ◌∙◌, ap, arith, inl, inr, subst}
use Rattle.std.proofs.lemmas.Bool.{eqb-true, cases_lt}
use Rattle.std.proofs.lemmas.Bool.Decides.{nat_tests}
use Rattle.std.proofs.lemmas.Option.{slice_get-get_or, slice_get-map}
use Rattle.std.proofs.lemmas.List.Quantifiers.{position-Some}
use Rattle.sg_text.specs.declared.places.Place.{Place}
use Rattle.sg_circuit.specs.declared.nets.Driver.TheVariants as driver
use Rattle.elab_numbering.specs.Driving.{by_stimulus, by_elements, drivers_at, IsTaken}
use Rattle.elab_numbering.proofs.DriveLemmas.{at-append}
use Rattle.elab_drivers.specs.Drivers.{IsPlaceOf}

pub found-place : {A : Type 0} (output : A → ℕ) (net : ℕ) (xs : List A) (places : List Place) (o : Option ℕ) (i : ℕ) (d : Place) → o ≡ position (λ x. output x == net) xs → o ≡ Some i
    → length places ≡ length xs
    → IsPlaceOf net (map output xs) places (slice_index_or places i d)
found-place output net [] places o i d e is l = let f : None ≡ Some i = sym e ∙ is in cc
found-place output net (x ∷ xs) places o i d e is l =
    let f = position-Some (λ x. output x == net) (x ∷ xs) i x (sym e ∙ is) in
    let lt : i < length (x ∷ xs) = f.0 in
    record {
      at = i;
      net_is = slice_get-map output (x ∷ xs) i ∙ ap (option_map output) (slice_get-get_or (x ∷ xs) i x lt) ∙ ap (λ n. Some n) (eqb-true (output (slice_index_or (x ∷ xs) i x)) net f.1);
      place_is = slice_get-get_or places i d (subst (λ n. i < n) (sym l) lt);
    }

none-from : {A : Type 0} (p : A → Bool) (xs : List A) → length xs ≤ position_or_len p xs → AllByRecursion (λ x. p x ≡ false) xs
none-from p [] le = tt
none-from p (x ∷ xs) le =
    elim (p x) as (λ b. p x ≡ b → AllByRecursion (λ x. p x ≡ false) (x ∷ xs)) [
      | true ↦ λ k. absurd (let m : length (x ∷ xs) ≤ 0 = rw k at le in omega arith)
      | false ↦ λ k. (let m = rw k at le in (k, none-from p xs (omega arith)))
    ] refl

none-passes : {A : Type 0} (p : A → Bool) (xs : List A) → position p xs ≡ None → AllByRecursion (λ x. p x ≡ false) xs
none-passes p xs e =
    elim (cases_lt (position_or_len p xs) (length xs)) [
      | inl m ↦ (let k : nat_lt (position_or_len p xs) (length xs) ≡ true = grind (arith, nat_tests) in absurd (let f = rw k at e in cc))
      | inr m ↦ none-from p xs m
    ]

inputs-none : (net : ℕ) (ns : List ℕ) → AllByRecursion (λ n. (n == net) ≡ false) ns → drivers_at net (map by_stimulus ns) ≡ []
inputs-none net [] h = refl
inputs-none net (n ∷ ns) h = ap (λ b. cond b (driver.Stimulus ∷ drivers_at net (map by_stimulus ns)) (drivers_at net (map by_stimulus ns))) h.0 ∙ inputs-none net ns h.1

elements-none : {A : Type 0} (output : A → ℕ) (net i : ℕ) (xs : List A) → AllByRecursion (λ x. (output x == net) ≡ false) xs → drivers_at net (by_elements i (map output xs)) ≡ []
elements-none output net i [] h = refl
elements-none output net i (x ∷ xs) h =
    ap (λ b. cond b (driver.Element i ∷ drivers_at net (by_elements (i + 1) (map output xs))) (drivers_at net (by_elements (i + 1) (map output xs)))) h.0
    ∙ elements-none output net (i + 1) xs h.1

-- what is driven is found
pub not-taken : {A : Type 0} (output : A → ℕ) (net : ℕ) (inputs : List ℕ) (xs : List A) (o p : Option ℕ) → o ≡ position (λ n. n == net) inputs → o ≡ None → p ≡ position (λ x. output x == net) xs
    → p ≡ None
    → IsTaken net (map by_stimulus inputs ++ by_elements 0 (map output xs)) → ⊥
not-taken output net inputs xs o p e g f h taken =
    let n : drivers_at net (map by_stimulus inputs ++ by_elements 0 (map output xs)) ≡ [] =
    at-append net (map by_stimulus inputs) (by_elements 0 (map output xs))
    ∙ ap (λ ds. ds ++ drivers_at net (by_elements 0 (map output xs))) (inputs-none net inputs (none-passes (λ n. n == net) inputs (sym e ∙ g)))
    ∙ elements-none output net 0 xs (none-passes (λ x. output x == net) xs (sym f ∙ h)) in
    let none : taken.0 ∷ [] ≡ [] = sym taken.1 ∙ n in
    cc

map-same : (xs : List ℕ) → map (λ n. n) xs ≡ xs
map-same [] = refl
map-same (x ∷ xs) = ap (λ ys. x ∷ ys) (map-same xs)

pub found-input : (net : ℕ) (ns : List ℕ) (places : List Place) (o : Option ℕ) (i : ℕ) (d : Place) → o ≡ position (λ n. n == net) ns → o ≡ Some i → length places ≡ length ns
    → IsPlaceOf net ns places (slice_index_or places i d)
found-input net ns places o i d e is l = subst (λ xs. IsPlaceOf net xs places (slice_index_or places i d)) (map-same ns) (found-place (λ n. n) net ns places o i d e is l)
