-- Which cell of a table stands for which inputs and state.
use Rattle.std.specs.Prelude.{◌≢◌, ℕ, suc, zero, ◌+◌, ◌*◌, ◌^◌, ◌<◌, Bool, if◌then◌else◌}
use Rattle.sg_logic.specs.declared.values.Value.{Value}
use Rattle.sg_logic.specs.declared.values.Value.TheVariants.{Zero, One, X, Z}
use Rattle.udp_rows.specs.Meaning.{Step}

-- a value as a number
abbrev pub digit : Value → ℕ
digit Zero = 0
digit One = 1
digit X = 2
digit Z = 3

-- the code of the first n inputs: the sum of digit times 3^j, input 0 first
abbrev pub code : (ℕ → Value) → ℕ → ℕ
code inputs zero = 0
code inputs (suc j) = digit (inputs j) * 3 ^ j + code inputs j

-- how many cells a table of n inputs has
abbrev pub cell_count : Bool → ℕ → ℕ
cell_count sequential n = if sequential then 12 * n * 3 ^ n else 3 ^ n

-- the cell of a step in a sequential table of n inputs: by the input that changes, its old value, the state, and the
-- inputs after the change
abbrev pub place : ℕ → Step → ℕ
place n step = ((3 * step.input + digit step.old) * 4 + digit step.state) * 3 ^ n + code step.inputs n

-- none of the first n inputs is z
abbrev pub HasNoZ : ℕ → (ℕ → Value) → Type 0
HasNoZ n inputs = (j : ℕ) → j < n → inputs j ≢ Z
