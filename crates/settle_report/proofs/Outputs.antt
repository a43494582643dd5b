-- The output ports of the top, variable by variable.
use Rattle.std.proofs.Common.{◌≡◌, ℕ, Bool, true, false, List, [], ◌∷◌, ◌++◌, map, cond, refl, sym, ap, ◌∙◌, flat_map, append_assoc}
use Rattle.std.proofs.lemmas.Grind.{flat_map-append}
use Rattle.std.specs.Prelude.{codes, decimal}
use Rattle.std.specs.List.{filter}
use Rattle.sg_circuit.specs.declared.scopes.Variable as code_variable
use Rattle.sg_circuit.specs.Circuit.{Circuit, Variable, scope_at}
use Rattle.sg_circuit.specs.Seen.{variable_seen}
use Rattle.wave_out.specs.Texts.{line}
use Rattle.settle_report.specs.Texts.{bound_line, bounds_text, greatest, is_output}

-- what is made of the bits of the output ports among some variables
abbrev pub of_outputs : (ℕ → List ℕ) → List code_variable.Variable → List ℕ
of_outputs f vs = flat_map (λ (v : code_variable.Variable). flat_map f v.bits.items) (filter (λ (v : code_variable.Variable). is_output v.port) vs)

abbrev bits : Variable → List ℕ
bits v = v.bits

abbrev seen : List code_variable.Variable → List Variable
seen vs = filter (λ (v : Variable). is_output v.port) (map (λ v. variable_seen v) vs)

-- as the circuit sees them
outputs_seen : (f : ℕ → List ℕ) (vs : List code_variable.Variable) → of_outputs f vs ≡ flat_map f (flat_map bits (seen vs))
outputs_seen f [] = refl
outputs_seen f (v ∷ vs) = by (is_output v.port) (outputs_seen f vs)
  where
    rest : List code_variable.Variable
    rest = filter (λ (w : code_variable.Variable). is_output w.port) vs

    made : code_variable.Variable → List ℕ
    made w = flat_map f w.bits.items

    by : (b : Bool) → flat_map made rest ≡ flat_map f (flat_map bits (seen vs)) → flat_map made (cond b (v ∷ rest) rest) ≡ flat_map f (flat_map bits (cond b (variable_seen v ∷ seen vs) (seen vs)))
    by true e = ap (λ t. made v ++ t) e ∙ sym (flat_map-append f v.bits.items (flat_map bits (seen vs)))
    by false e = e

pub whole_text : (circuit : Circuit) (bounds : List ℕ) (vs : List code_variable.Variable) (none first second whole : List ℕ) (most : ℕ) → none ≡ [] → first ≡ none ++ of_outputs (bound_line circuit bounds) vs
    → second ≡ first ++ codes "bound " → whole ≡ second ++ line (decimal most) → most ≡ greatest bounds → map (λ v. variable_seen v) vs ≡ (scope_at circuit 0).variables → whole ≡ bounds_text circuit bounds
whole_text circuit bounds vs none first second whole most n a b c g v =
    let f = bound_line circuit bounds in
    let outputs : first ≡ flat_map f (flat_map bits (filter (λ (w : Variable). is_output w.port) (scope_at circuit 0).variables)) =
    a ∙ ap (λ t. t ++ of_outputs f vs) n ∙ outputs_seen f vs ∙ ap (λ (ws : List Variable). flat_map f (flat_map bits (filter (λ (w : Variable). is_output w.port) ws))) v in
    c ∙ ap (λ t. t ++ line (decimal most)) b ∙ append_assoc first (codes "bound ") (line (decimal most)) ∙ ap (λ t. t ++ line (codes "bound " ++ decimal most)) outputs
    ∙ ap (λ m. flat_map f (flat_map bits (filter (λ (w : Variable). is_output w.port) (scope_at circuit 0).variables)) ++ line (codes "bound " ++ decimal m)) g
