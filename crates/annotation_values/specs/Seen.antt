-- Words of the code that reckons values.
use Rattle.std.specs.Prelude.{◌≡◌, ℤ, Bool, true, false, Option, Some, None, Result, Ok, Err}
use Rattle.annotation_model.specs.Applied.{Grid, is_large}
use Rattle.annotation_values.specs.declared.grids.Grid as code_grid

abbrev pub grid_seen : code_grid.Grid → Grid
grid_seen g = record { corner = g.corner; unit = g.unit.power; precision = g.precision.power; tick = g.tick.power }

-- a value, or that it is too large
abbrev pub Tells : {A E : Type 0} → Bool → A → Result A E → Type 0
Tells large value (Ok v) = (large ≡ false) × (v ≡ value)
Tells large value (Err e) = large ≡ true

-- a value of 2^60 ticks or more, if there is one
abbrev pub is_value_large : Option ℤ → Bool
is_value_large None = false
is_value_large (Some value) = is_large value
