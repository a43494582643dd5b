-- Words of contracts: the scopes that a scope stands in, as the code climbs them.
use Rattle.std.specs.Prelude.{ℕ, zero, suc, List, [], ◌∷◌, length, Option, Some, None, ◌++◌}
use Rattle.sg_circuit.specs.Circuit.{Circuit, scope_at}
use Rattle.written_model.specs.Names.{name_text}

-- a scope and those that it stands in, but for the top, the nearest first; no more of them than the turns
abbrev pub above : (ℕ → List ℕ) → ℕ → Option ℕ → List ℕ
above more s None = []
above more s (Some parent) = s ∷ more parent

abbrev pub chain_in : ℕ → Circuit → ℕ → List ℕ
chain_in zero c s = []
chain_in (suc turns) c s = above (chain_in turns c) s (scope_at c s).parent

abbrev pub chain : Circuit → ℕ → List ℕ
chain c s = chain_in (length c.scopes) c s

-- the names of scopes, the first behind a mark and each other one behind a divider
abbrev pub marked_names : Circuit → (mark : ℕ) → List ℕ → List ℕ
marked_names c mark [] = []
marked_names c mark (s ∷ ss) = mark ∷ (name_text (scope_at c s).name ++ marked_names c 47 ss)
