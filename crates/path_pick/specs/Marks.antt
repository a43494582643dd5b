-- The flags of nets, while a path is looked for.
use Rattle.std.specs.Prelude.{◌≡◌, ℕ, ◌==◌, Bool, false, List, slice_index_or}
use Rattle.std.specs.List.{list_any}
use Rattle.sg_logic.specs.declared.values.Value.{Value}
use Rattle.sg_circuit.specs.declared.paths.Path.{Path}
use Rattle.path_pick.specs.Pass.{some_is_true}

-- none is set
abbrev pub AreOff : List Bool → Type 0
AreOff flags = (net : ℕ) → slice_index_or flags net false ≡ false

-- those of the inputs of paths whose own condition holds are set
abbrev pub AreMarked : List Path → List Value → List Bool → Type 0
AreMarked paths values flags = (net : ℕ) → slice_index_or flags net false ≡ some_is_true paths values net

-- whether a path goes from a net
abbrev pub is_input : List Path → ℕ → Bool
is_input paths net = list_any (λ p. p.input == net) paths
