-- The scopes that a scope stands in, as the code climbs them.
use Rattle.std.specs.Prelude.{ℕ, zero, suc, List, [], ◌∷◌, ◌++◌, Option, Some, None, codes}
use Rattle.sg_circuit.specs.Circuit.{Circuit, scope_at}

-- a scope, if there is one, and those that it stands in, no more of them than the turns
abbrev pub climb_in : ℕ → Circuit → Option ℕ → List ℕ
climb_in zero circuit o = []
climb_in (suc turns) circuit None = []
climb_in (suc turns) circuit (Some scope) = scope ∷ climb_in turns circuit (scope_at circuit scope).parent

-- turns that suffice, since scopes are numbered after those that they stand in
abbrev pub turns_of : Option ℕ → ℕ
turns_of None = 0
turns_of (Some scope) = suc scope

abbrev pub climb : Circuit → Option ℕ → List ℕ
climb circuit o = climb_in (turns_of o) circuit o

-- the scopes that a scope stands in, the nearest first
abbrev pub scopes_above : Circuit → ℕ → List ℕ
scopes_above circuit scope = climb circuit (scope_at circuit scope).parent

-- a scope's name and a dot
abbrev pub outer_text : Circuit → ℕ → List ℕ
outer_text circuit scope = (scope_at circuit scope).name ++ codes "."
