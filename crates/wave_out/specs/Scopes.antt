-- The scopes of a circuit and their variables, in the order in which a dump's header shows them.
use Rattle.std.specs.Prelude.{ℕ, zero, suc, ◌==◌, List, [], ◌∷◌, ◌++◌, Bool, false, Option, Some, None, length, flat_map, if◌then◌else◌}
use Rattle.sg_circuit.specs.Circuit.{Circuit, Scope, Variable, scope_at}
use Rattle.wave_out.specs.declared.scopes.Visit.{Visit}
use Rattle.wave_out.specs.declared.scopes.Visit.TheVariants.{Enters, Leaves}

abbrev pub is_parent : ℕ → Option ℕ → Bool
is_parent scope None = false
is_parent scope (Some p) = p == scope

-- of scopes that are numbered from k, those with this parent, in their order
abbrev pub children_from : ℕ → ℕ → List Scope → List ℕ
children_from parent k [] = []
children_from parent k (s ∷ ss) = if is_parent parent s.parent then (k ∷ children_from parent (suc k) ss) else children_from parent (suc k) ss

abbrev pub children_of : Circuit → ℕ → List ℕ
children_of circuit scope = children_from scope 0 circuit.scopes

-- a scope is entered, and left after its child scopes; nested no deeper than the turns
abbrev pub visits_in : ℕ → Circuit → ℕ → List Visit
visits_in zero circuit scope = []
visits_in (suc turns) circuit scope = Enters scope ∷ (flat_map (visits_in turns circuit) (children_of circuit scope) ++ Leaves ∷ [])

-- the whole tree of scopes, from the top
abbrev pub visits : Circuit → List Visit
visits circuit = visits_in (length circuit.scopes) circuit 0

-- the variables of a scope that is entered
abbrev pub variables_at : Circuit → Visit → List Variable
variables_at circuit (Enters scope) = (scope_at circuit scope).variables
variables_at circuit Leaves = []

-- all variables, in the order of the header
abbrev pub variables_of : Circuit → List Variable
variables_of circuit = flat_map (variables_at circuit) (visits circuit)
