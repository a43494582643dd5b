-- What a user-defined primitive computes (IEEE 1364-2005, clause 8): a search through its rows, and for a sequential one
-- input by input.
use Rattle.std.specs.Prelude.{ℕ, suc, zero, ◌+◌, ◌==◌, nat_lt, Bool, true, ◌&&◌, not, if◌then◌else◌, List, slice_index_or}
use Rattle.std.specs.List.{list_any, list_all, enumerate_from, find}
use Rattle.std.specs.declared.option.Option.{Option}
use Rattle.std.specs.declared.option.Option.TheVariants.{Some, None}
use Rattle.sg_logic.specs.declared.values.Value.{Value}
use Rattle.sg_logic.specs.declared.values.Value.TheVariants.{Zero, One, X}
use Rattle.sg_logic.specs.Values.{is_same, z_as_x}
use Rattle.udp_rows.specs.declared.cells.Cell.{Cell}
use Rattle.udp_rows.specs.declared.cells.RawRow.{RawRow}
use Rattle.udp_rows.specs.Symbols.{has_edge, level_covers, edge_covers}

-- a primitive: how many inputs it has, whether its output is a reg, and the rows of its table
pub record Primitive : Type 0 where
  pub inputs : ℕ
  pub sequential : Bool
  pub rows : List RawRow

-- one input changes: its number and its old value, all inputs by number after the change, and the state
pub record Step : Type 0 where
  pub input : ℕ
  pub old : Value
  pub inputs : ℕ → Value
  pub state : Value

-- whether the cell of an input covers a step: an edge symbol covers the change at the input that changes, a level symbol
-- the value after the change
abbrev pub cell_covers : Step → ℕ → Cell → Bool
cell_covers step j cell =
    if has_edge cell then (j == step.input) && edge_covers cell step.old (step.inputs j)
    else level_covers cell.first (step.inputs j)

-- whether each cell of a row covers a step
abbrev pub cells_cover : Step → List Cell → Bool
cells_cover step cells = list_all (λ numbered. cell_covers step numbered.0 numbered.1) (enumerate_from 0 cells)

-- a row without a state covers each state
abbrev pub state_covers : Option Cell → Value → Bool
state_covers None state = true
state_covers (Some cell) state = level_covers cell.first state

-- whether a row covers a step: its cells do, and that of the state
abbrev pub row_covers : Step → RawRow → Bool
row_covers step row = cells_cover step row.inputs && state_covers row.state step.state

-- whether a row has an edge symbol
abbrev pub is_edge_row : RawRow → Bool
is_edge_row row = list_any has_edge row.inputs

-- whether a level row, one without edge symbols, covers a step
abbrev pub level_row_covers : Step → RawRow → Bool
level_row_covers step row = not (is_edge_row row) && row_covers step row

-- whether an edge row covers a step
abbrev pub edge_row_covers : Step → RawRow → Bool
edge_row_covers step row = is_edge_row row && row_covers step row

-- a row's output; - is the state
abbrev pub output : RawRow → Value → Value
output row state =
    if row.out.first == 48 then Zero else if row.out.first == 49 then One else if row.out.first == 45 then state else X

-- the output of a row, if there is one, and else another value
abbrev pub output_or : Option RawRow → Value → Value → Value
output_or None state otherwise = otherwise
output_or (Some row) state otherwise = output row state

-- the state after a step: the output of a level row that covers it, else of an edge row that covers it, else x
-- (8.8, level-sensitive dominance)
abbrev pub after_step : List RawRow → Step → Value
after_step rows step =
    output_or (find (level_row_covers step) rows) step.state (output_or (find (edge_row_covers step) rows) step.state X)

-- the value of an input, z read as x (8.1.5)
abbrev pub input_value : List Value → ℕ → Value
input_value values j = z_as_x (slice_index_or values j X)

-- the inputs when those below k were taken: these have their new values, the others still their old ones
abbrev pub inputs_taken : List Value → List Value → ℕ → ℕ → Value
inputs_taken old new k j = if nat_lt j k then input_value new j else input_value old j

-- the step that takes input i
abbrev pub step_of : List Value → List Value → Value → ℕ → Step
step_of old new state i =
    record { input = i; old = input_value old i; inputs = inputs_taken old new (i + 1); state = state }

-- the state when the inputs below k were taken in port order, those that differ
abbrev pub state_after : List RawRow → List Value → List Value → Value → ℕ → Value
state_after rows old new state zero = state
state_after rows old new state (suc i) =
    if is_same (input_value old i) (input_value new i) then state_after rows old new state i
    else after_step rows (step_of old new (state_after rows old new state i) i)

-- all inputs as they are: a step that changes nothing
abbrev pub step_without_change : (ℕ → Value) → Step
step_without_change inputs = record { input = 0; old = inputs 0; inputs = inputs; state = X }

-- the output of a combinational primitive: that of a row that covers the inputs, else x (8.2)
abbrev pub combinational_value : List RawRow → (ℕ → Value) → Value
combinational_value rows inputs = output_or (find (row_covers (step_without_change inputs)) rows) X X

-- the value of a primitive's output for its old and new inputs; for a sequential one its new state, from the old one
abbrev pub udp_next : Primitive → List Value → List Value → Value → Value
udp_next udp old new state =
    if udp.sequential then state_after udp.rows old new state udp.inputs
    else combinational_value udp.rows (input_value new)
