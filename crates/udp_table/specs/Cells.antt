-- What a table answers, and when it is the table of a primitive.
use Rattle.std.specs.Prelude.{◌≡◌, ◌≢◌, ℕ, ◌<◌, ◌≤◌, true, false, if◌then◌else◌, List, length}
use Rattle.sg_logic.specs.declared.values.Value.{Value}
use Rattle.sg_logic.specs.declared.values.Value.TheVariants.{Z}
use Rattle.udp_rows.specs.Meaning.{Primitive, Step, input_value, after_step, combinational_value}
use Rattle.udp_rows.specs.Faults.{most_inputs}
use Rattle.udp_table.specs.declared.table.Table.{Table}
use Rattle.udp_table.specs.Places.{HasNoZ, code, cell_count, place}
use Rattle.udp_table.specs.Looking.{cell_value, state_by}

-- what a table answers for old and new inputs and a state
abbrev pub answer_by : Table → List Value → List Value → Value → Value
answer_by table old new state =
    if table.sequential then state_by table.cells.items table.inputs old new state table.inputs
    else cell_value table.cells.items (code (input_value new) table.inputs)

-- a table has as many cells as its inputs ask for, and not too many inputs
pub record IsWhole (table : Table) : Type 0 where
  pub cells : length table.cells.items ≡ cell_count table.sequential table.inputs
  pub inputs : table.inputs ≤ most_inputs table.sequential

-- a table of a primitive: each cell is the output for the inputs that it stands for, or the state after its step
pub record IsTableOf (udp : Primitive) (table : Table) : Type 0 where
  pub inputs : table.inputs ≡ udp.inputs
  pub sequential : table.sequential ≡ udp.sequential
  pub outputs : udp.sequential ≡ false → (inputs : ℕ → Value) → HasNoZ udp.inputs inputs
      → cell_value table.cells.items (code inputs udp.inputs) ≡ combinational_value udp.rows inputs
  pub states : udp.sequential ≡ true → (step : Step) → step.input < udp.inputs → step.old ≢ Z → HasNoZ udp.inputs step.inputs
      → cell_value table.cells.items (place udp.inputs step) ≡ after_step udp.rows step
