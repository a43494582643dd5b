-- The places of the top's inputs among its variables, by their names.
use Rattle.std.specs.Prelude.{◌≡◌, ℕ, ◌&&◌, Bool, bytes_eq, List, Option, Some, None, if◌then◌else◌}
use Rattle.std.specs.Borrow.{Bor}
use Rattle.std.specs.List.{position_from}
use Rattle.std.specs.Option.{option_or}
use Rattle.indexmap.specs.IndexMap.{IndexMap, get_by}
use Rattle.sg_circuit.specs.Circuit.{Circuit, Variable}
use Rattle.stim_read.specs.Inputs.{is_input}

-- the place that a table has for a name
abbrev pub place_in : {S : Type 0} → IndexMap (Bor (List ℕ)) ℕ S → List ℕ → Option ℕ
place_in places name = get_by (λ key. bytes_eq name key.now) places

abbrev pub is_input_of : Circuit → List ℕ → Variable → Bool
is_input_of circuit name v = bytes_eq v.name name && is_input circuit v

-- a place that is kept, or else another one, where that counts
abbrev pub one_more : Option ℕ → Bool → ℕ → Option ℕ
one_more known counts place = option_or known (if counts then Some place else None)

-- a table has the place of the first input of each name
abbrev pub ArePlaces : {S : Type 0} → Circuit → List Variable → IndexMap (Bor (List ℕ)) ℕ S → Type 0
ArePlaces circuit vs places = (name : List ℕ) → place_in places name ≡ position_from (is_input_of circuit name) 0 vs
