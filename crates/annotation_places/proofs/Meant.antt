-- The nets that a name means, from the places of the variables that have it.
use Rattle.std.specs.Prelude.{◌≡◌, refl, ℕ, ℤ, zero, suc, ◌+◌, ◌<◌, ◌&&◌, bytes_eq, All, Bool, true, false, List, [], ◌∷◌, ◌++◌, map, length, Option, if◌then◌else◌, slice_index_or}
use Rattle.std.specs.List.{filter, flat_map, range_with_len}
use Rattle.std.proofs.Common.{ap, sym, ◌∙◌, add-one, arith, cond, subst}
use Rattle.std.proofs.lemmas.List.{get_or-map, length-map}
use Rattle.std.proofs.lemmas.List.Elements.{All-filter}
use Rattle.sg_circuit.specs.Circuit.{Variable, scope_at}
use Rattle.sg_circuit.specs.Seen.{circuit_seen, scope_seen, variable_seen}
use Rattle.sg_circuit.specs.declared.circuits.Parts.{Parts}
use Rattle.sg_circuit.specs.declared.scopes.Scope as code_scope
use Rattle.sg_circuit.specs.declared.scopes.Variable as code_variable
use Rattle.sg_circuit.specs.declared.scopes.Port.{Port}
use Rattle.annotation_model.specs.Ports.{has, bits_of, nets_named}
use Rattle.annotation_places.specs.Places.{no_variable, variables_of}
use Rattle.annotation_places.specs.Nets.{meant_of, meant_at}
use Rattle.annotation_places.proofs.Turns.{range_within}

-- what a place gives, one further on in a longer list
next : {A : Type 0} (f : Variable → A) (v : Variable) (vs : List Variable) (k : ℕ) → f (slice_index_or (v ∷ vs) (k + 1) no_variable) ≡ f (slice_index_or vs k no_variable)
next f v vs k = rw add-one refl

-- the places of a test that are one further on
shifted : {A : Type 0} (test next_test : ℕ → Bool) (f next_f : ℕ → List A) → ((k : ℕ) → next_test (k + 1) ≡ test k) → ((k : ℕ) → next_f (k + 1) ≡ f k)
    → (a n : ℕ) → flat_map next_f (filter next_test (range_with_len (a + 1) n)) ≡ flat_map f (filter test (range_with_len a n))
shifted test next_test f next_f t e a zero = refl
shifted {A} test next_test f next_f t e a (suc n) = ap (λ b. flat_map next_f (cond b ((a + 1) ∷ filter next_test (range_with_len (a + 1 + 1) n)) (filter next_test (range_with_len (a + 1 + 1) n)))) (t a) ∙ by (test a) (shifted test next_test f next_f t e (a + 1) n)
  where
    by : (b : Bool) → flat_map next_f (filter next_test (range_with_len (a + 1 + 1) n)) ≡ flat_map f (filter test (range_with_len (a + 1) n))
        → flat_map next_f (cond b ((a + 1) ∷ filter next_test (range_with_len (a + 1 + 1) n)) (filter next_test (range_with_len (a + 1 + 1) n)))
        ≡ flat_map f (cond b (a ∷ filter test (range_with_len (a + 1) n)) (filter test (range_with_len (a + 1) n)))
    by true rest = ap (λ xs. xs ++ flat_map next_f (filter next_test (range_with_len (a + 1 + 1) n))) (e a) ∙ ap (λ ys. f a ++ ys) rest
    by false rest = rest

abbrev pub is_named : List ℕ → List Variable → ℕ → Bool
is_named name vs place = bytes_eq (slice_index_or vs place no_variable).name name

abbrev pub given : (Port → Bool) → Option ℤ → List Variable → ℕ → List ℕ
given kind bit vs place = meant_of kind bit (slice_index_or vs place no_variable)

-- what the variables of a name give, by their places
pub named_are : (kind : Port → Bool) (bit : Option ℤ) (name : List ℕ) (vs : List Variable)
    → flat_map (given kind bit vs) (filter (is_named name vs) (range_with_len 0 (length vs))) ≡ nets_named kind vs name bit
named_are kind bit name [] = refl
named_are kind bit name (v ∷ vs) = by (bytes_eq v.name name) (named_are kind bit name vs)
  where
    all : List Variable
    all = v ∷ vs

    rest : flat_map (given kind bit all) (filter (is_named name all) (range_with_len 1 (length vs))) ≡ flat_map (given kind bit vs) (filter (is_named name vs) (range_with_len 0 (length vs)))
    rest = shifted (is_named name vs) (is_named name all) (given kind bit vs) (given kind bit all) (next (λ w. bytes_eq w.name name) v vs) (next (meant_of kind bit) v vs) 0 (length vs)

    by : (b : Bool) → flat_map (given kind bit vs) (filter (is_named name vs) (range_with_len 0 (length vs))) ≡ nets_named kind vs name bit
        → flat_map (given kind bit all) (cond b (0 ∷ filter (is_named name all) (range_with_len 1 (length vs))) (filter (is_named name all) (range_with_len 1 (length vs))))
        ≡ (if b && kind v.port then bits_of v bit else []) ++ nets_named kind vs name bit
    by true e = ap (λ xs. meant_of kind bit v ++ xs) (rest ∙ e)
    by false e = rest ∙ e

-- what is given of one variable
item_is : (kind : Port → Bool) (bit : Option ℤ) (vs : List code_variable.Variable) (place : ℕ) (v : code_variable.Variable) → place < length vs → v ≡ slice_index_or vs place v
    → meant_of kind bit (variable_seen v) ≡ meant_at kind bit vs place
item_is kind bit vs place v l e = ap (λ w. meant_of kind bit (variable_seen w)) e ∙ ap (meant_of kind bit) (sym (get_or-map (λ w. variable_seen w) vs place v no_variable l))

-- a test of it
pub tested : (kind : Port → Bool) (bit : Option ℤ) (vs : List code_variable.Variable) (place net : ℕ) (v : code_variable.Variable) (given : List ℕ) (test answer : Bool) → place < length vs
    → v ≡ slice_index_or vs place v → given ≡ meant_of kind bit (variable_seen v) → test ≡ has net given → test ≡ answer → has net (meant_at kind bit vs place) ≡ answer
tested kind bit vs place net v given test answer l e g t a = sym (t ∙ ap (has net) (g ∙ item_is kind bit vs place v l e)) ∙ a

scope_is : (parts : Parts) (scope : ℕ) (s : code_scope.Scope) → scope < length parts.scopes.items → s ≡ slice_index_or parts.scopes.items scope s → scope_seen s ≡ scope_at (circuit_seen parts) scope
scope_is parts scope s l e = ap (λ t. scope_seen t) e ∙ sym (get_or-map (λ t. scope_seen t) parts.scopes.items scope s _ l)

-- the variables of a scope, as the code has them
variables_are : (parts : Parts) (scope : ℕ) (s : code_scope.Scope) (variables : List code_variable.Variable) → scope < length parts.scopes.items → s ≡ slice_index_or parts.scopes.items scope s
    → variables ≡ s.variables.items → map (λ v. variable_seen v) variables ≡ (scope_at (circuit_seen parts) scope).variables
variables_are parts scope s variables l e v = ap (map (λ v. variable_seen v)) v ∙ ap (λ t. t.variables) (scope_is parts scope s l e)

-- the same of these, by the places that an index gives
pub meant_in : (parts : Parts) (scope : ℕ) (kind : Port → Bool) (name : List ℕ) (bit : Option ℤ) (s : code_scope.Scope) (variables : List code_variable.Variable) (places : List ℕ)
    → scope < length parts.scopes.items → s ≡ slice_index_or parts.scopes.items scope s → variables ≡ s.variables.items → places ≡ variables_of (circuit_seen parts) scope name
    → flat_map (meant_at kind bit variables) places ≡ nets_named kind (scope_at (circuit_seen parts) scope).variables name bit
meant_in parts scope kind name bit s variables places l e v p =
    let all : List Variable = (scope_at (circuit_seen parts) scope).variables in
    ap (flat_map (meant_at kind bit variables)) p
    ∙ ap (λ vs. flat_map (given kind bit vs) (filter (is_named name all) (range_with_len 0 (length all)))) (variables_are parts scope s variables l e v)
    ∙ named_are kind bit name all

-- these places are among theirs
pub places_within : (parts : Parts) (scope : ℕ) (name : List ℕ) (s : code_scope.Scope) (variables : List code_variable.Variable) (places : List ℕ)
    → scope < length parts.scopes.items → s ≡ slice_index_or parts.scopes.items scope s → variables ≡ s.variables.items → places ≡ variables_of (circuit_seen parts) scope name
    → All (λ place. place < length variables) places
places_within parts scope name s variables places l e v p =
    let all : List Variable = (scope_at (circuit_seen parts) scope).variables in
    let count : length variables ≡ length all = sym (length-map variables (λ v. variable_seen v)) ∙ ap length (variables_are parts scope s variables l e v) in
    subst (λ xs. All (λ place. place < length variables) xs) (sym p)
    (All-filter (is_named name all) (λ place. place < length variables) (range_with_len 0 (length all)) (range_within 0 (length all) (length variables) (omega (arith, count))))
