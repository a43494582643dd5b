-- How the first of some variables that has a net names it.
use Rattle.std.specs.Prelude.{◌≡◌, ℕ, ◌+◌, ◌<◌, ◌==◌, List, [], ◌++◌, All, Option, Some, None, drop, length, map, position, refl}
use Rattle.std.specs.List.{position_from}
use Rattle.std.specs.Option.{option_map, option_or}
use Rattle.std.proofs.Common.{sym, ◌∙◌, ap, subst, arith, get_or}
use Rattle.std.proofs.lemmas.List.{at_drop_more, get_or-map, length-map}
use Rattle.std.proofs.lemmas.Iterator.Adapters.{position_from-zero}
use Rattle.sg_circuit.specs.declared.circuits.Parts.{Parts}
use Rattle.sg_circuit.specs.declared.scopes.Scope as code_scope
use Rattle.sg_circuit.specs.declared.scopes.Variable as code_variable
use Rattle.sg_circuit.specs.Circuit.{Scope, Variable}
use Rattle.sg_circuit.specs.Closed.{IsClosed, width_of}
use Rattle.sg_circuit.specs.Seen.{circuit_seen, scope_seen, variable_seen}
use Rattle.written_model.specs.Names.{bit_at}
use Rattle.why_text.specs.Pins.{name_or, named_in}

abbrev pub seen : List code_variable.Variable → List Variable
seen vs = map (λ v. variable_seen v) vs

-- the first of what is left from a place on, by where the variable of that place has the net
named_step : (vs : List code_variable.Variable) (net i : ℕ) (v : code_variable.Variable) (o : Option ℕ) → i < length vs → v ≡ get_or vs i v → o ≡ position (λ n. n == net) v.bits.items
    → named_in (seen (drop i vs)) net ≡ option_or (option_map (bit_at (variable_seen v)) o) (named_in (seen (drop (i + 1) vs)) net)
named_step vs net i v o l is e =
    at_drop_more (λ xs. named_in (seen xs) net) vs i v l
    ∙ (ap (λ x. option_or (option_map (bit_at (variable_seen x)) (position_from (λ n. n == net) 0 x.bits.items)) (named_in (seen (drop (i + 1) vs)) net)) (sym is)
    ∙ ap (λ p. option_or (option_map (bit_at (variable_seen v)) p) (named_in (seen (drop (i + 1) vs)) net)) (sym (e ∙ position_from-zero (λ n. n == net) v.bits.items)))

-- none so far has it
abbrev pub NoneSoFar : List code_variable.Variable → ℕ → ℕ → (old text : List ℕ) → Type 0
NoneSoFar vs net i old text = (text ≡ old) × (named_in (seen vs) net ≡ named_in (seen (drop i vs)) net)

pub named_is : (vs : List code_variable.Variable) (net i : ℕ) (v : code_variable.Variable) (bits : List ℕ) (place : ℕ) (old text : List ℕ) → i < length vs → v ≡ get_or vs i v → bits ≡ v.bits.items
    → NoneSoFar vs net i old text → Some place ≡ position (λ n. n == net) bits → Some (bit_at (variable_seen v) place) ≡ named_in (seen vs) net
named_is vs net i v bits place old text l is b h e = sym (h.1 ∙ named_step vs net i v (Some place) l is (e ∙ ap (λ xs. position (λ n. n == net) xs) b))

pub named_here : (vs : List code_variable.Variable) (net i : ℕ) (v : code_variable.Variable) (bits : List ℕ) (place : ℕ) (old text new : List ℕ) → i < length vs → v ≡ get_or vs i v → bits ≡ v.bits.items
    → NoneSoFar vs net i old text → Some place ≡ position (λ n. n == net) bits → new ≡ text ++ name_or (Some (bit_at (variable_seen v) place)) []
    → new ≡ old ++ name_or (named_in (seen vs) net) []
named_here vs net i v bits place old text new l is b h e n =
    n ∙ (ap (λ t. t ++ name_or (Some (bit_at (variable_seen v) place)) []) h.0
    ∙ ap (λ o. old ++ name_or o []) (named_is vs net i v bits place old text l is b h e))

pub named_later : (vs : List code_variable.Variable) (net i : ℕ) (v : code_variable.Variable) (bits : List ℕ) (o : Option ℕ) (old text : List ℕ) → i < length vs → v ≡ get_or vs i v → bits ≡ v.bits.items
    → NoneSoFar vs net i old text → o ≡ position (λ n. n == net) bits → ((k : ℕ) → o ≡ Some k → ⊥)
    → NoneSoFar vs net (i + 1) old text
named_later vs net i v bits None old text l is b h e rest = (h.0, h.1 ∙ named_step vs net i v None l is (e ∙ ap (λ xs. position (λ n. n == net) xs) b))
named_later vs net i v bits (Some k) old text l is b h e rest = absurd (rest k refl)

-- a scope's variables have as many bits as their ranges say
pub scope_widths : (parts : Parts) → IsClosed (circuit_seen parts) → (s : ℕ) (S : code_scope.Scope) → s < length parts.scopes.items → S ≡ get_or parts.scopes.items s S
    → All (λ v. length v.bits.items ≡ width_of v.range) S.variables.items
scope_widths parts closed s S l at k d m =
    let n : length (map (λ x. scope_seen x) parts.scopes.items) ≡ length parts.scopes.items = length-map parts.scopes.items (λ x. scope_seen x) in
    let is : get_or (map (λ x. scope_seen x) parts.scopes.items) s (scope_seen S) ≡ scope_seen S = get_or-map (λ x. scope_seen x) parts.scopes.items s S _ l ∙ ap (λ x. scope_seen x) (sym at) in
    let h = subst (λ (x : Scope). All (λ (v : Variable). length v.bits ≡ width_of v.range) x.variables) is (closed.widths s (scope_seen S) (omega (arith, n, l))) in
    let w : length (seen S.variables.items) ≡ length S.variables.items = length-map S.variables.items (λ v. variable_seen v) in
    subst (λ (v : Variable). length v.bits ≡ width_of v.range) (get_or-map (λ v. variable_seen v) S.variables.items k d _ m) (h k (variable_seen d) (omega (arith, w, m)))
