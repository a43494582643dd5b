-- What is so of a closed circuit, said of the parts that it was made of.
use Rattle.std.specs.Prelude.{◌≡◌, ℕ, ◌<◌, All, List, [], ◌∷◌, length, map, refl}
use Rattle.std.proofs.Common.{sym, ◌∙◌, ap, subst}
use Rattle.std.proofs.lemmas.List.{get_or-map, length-map}
use Rattle.sg_circuit.specs.Circuit.{Circuit}
use Rattle.sg_circuit.specs.Closed.{IsClosed}
use Rattle.sg_circuit.specs.Seen.{circuit_seen, element_seen}
use Rattle.sg_circuit.specs.declared.elements.Element as code_element
use Rattle.sg_circuit.specs.declared.circuits.Parts.{Parts}

pub all-unmapped : {A B : Type 0} (P : B → Type 0) (f : A → B) (xs : List A) → All P (map f xs) → All (λ x. P (f x)) xs
all-unmapped P f xs h = λ k d l. subst P (get_or-map f xs k d (f d) l) (h k (f d) (subst (λ n. k < n) (sym (length-map xs f)) l))

pub map-mapped : {A B C : Type 0} (g : B → C) (f : A → B) (xs : List A) → map g (map f xs) ≡ map (λ x. g (f x)) xs
map-mapped g f [] = refl
map-mapped g f (x ∷ xs) = ap (λ ys. g (f x) ∷ ys) (map-mapped g f xs)

-- the inputs of the elements
pub inputs_within : (parts : Parts) (circuit : Circuit) (elements : List code_element.Element) (nets : ℕ) → circuit_seen parts ≡ circuit → IsClosed circuit → elements ≡ parts.elements.items → nets ≡ length parts.nets.items
    → All (λ e. All (λ n. n < nets) e.inputs.items) elements
inputs_within parts circuit elements nets seen closed same count =
    let h : IsClosed (circuit_seen parts) = subst (λ c. IsClosed c) (sym seen) closed in
    let all : All (λ e. All (λ n. n < length parts.nets.items) e.inputs.items) parts.elements.items =
    all-unmapped (λ e. All (λ n. n < length parts.nets.items) e.inputs) (element_seen parts) parts.elements.items h.inputs in
    subst (λ es. All (λ e. All (λ n. n < nets) e.inputs.items) es) (sym same) (subst (λ k. All (λ e. All (λ n. n < k) e.inputs.items) parts.elements.items) (sym count) all)

pub inputs_seen : (parts : Parts) (circuit : Circuit) (elements : List code_element.Element) → circuit_seen parts ≡ circuit → elements ≡ parts.elements.items
    → map (λ e. e.inputs.items) elements ≡ map (λ e. e.inputs) circuit.elements
inputs_seen parts circuit elements seen same =
    ap (λ es. map (λ e. e.inputs.items) es) same ∙ (sym (map-mapped (λ e. e.inputs) (element_seen parts) parts.elements.items) ∙ ap (λ c. map (λ e. e.inputs) c.elements) seen)
