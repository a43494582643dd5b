-- What a table answers by its cells, whatever they are.
use Rattle.std.specs.Prelude.{ℕ, suc, zero, if◌then◌else◌, List, slice_index_or}
use Rattle.sg_logic.specs.declared.values.Value.{Value}
use Rattle.sg_logic.specs.declared.values.Value.TheVariants.{Zero}
use Rattle.sg_logic.specs.Values.{is_same}
use Rattle.udp_rows.specs.Meaning.{input_value, step_of}
use Rattle.udp_table.specs.Places.{place}

-- the value of a cell
abbrev pub cell_value : List Value → ℕ → Value
cell_value cells k = slice_index_or cells k Zero

-- the state when the inputs below k were taken in port order, those that differ: each time the cell of that step
abbrev pub state_by : List Value → ℕ → List Value → List Value → Value → ℕ → Value
state_by cells n old new state zero = state
state_by cells n old new state (suc i) =
    if is_same (input_value old i) (input_value new i) then state_by cells n old new state i
    else cell_value cells (place n (step_of old new (state_by cells n old new state i) i))
