-- Cells filled from rows: nothing rests on this but the code.
use Rattle.std.specs.Prelude.{◌≡◌, ℕ, ◌*◌, ◌^◌, ◌<◌, Bool, true, false, List, length, slice_index_or}
use Rattle.sg_logic.specs.declared.values.Value.{Value}
use Rattle.sg_logic.specs.declared.values.Value.TheVariants.{Zero}
use Rattle.udp_rows.specs.declared.cells.RawRow.{RawRow}
use Rattle.udp_rows.specs.Meaning.{after_step, combinational_value}
use Rattle.udp_table.specs.Compiled.{inputs_of, step_at}

-- a list has this many values, each that of its place
pub record IsFilled (cells : List Value) (count : ℕ) (value : ℕ → Value) : Type 0 where
  pub size : length cells ≡ count
  pub each : (k : ℕ) → k < count → slice_index_or cells k Zero ≡ value k

-- the cells of a combinational table of n inputs
abbrev pub HasOutputs : List RawRow → ℕ → List Value → Type 0
HasOutputs rows n cells = IsFilled cells (3 ^ n) (λ k. combinational_value rows (inputs_of k))

-- the cells of a sequential one
abbrev pub HasStates : List RawRow → ℕ → List Value → Type 0
HasStates rows n cells = IsFilled cells (12 * n * 3 ^ n) (λ k. after_step rows (step_at (3 ^ n) k))

abbrev pub IsFilledFrom : List RawRow → Bool → ℕ → List Value → Type 0
IsFilledFrom rows true n cells = HasStates rows n cells
IsFilledFrom rows false n cells = HasOutputs rows n cells
