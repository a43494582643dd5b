-- A law of adjusted circuits.
use Rattle.std.specs.Prelude.{◌≡◌}
use Rattle.sg_circuit.specs.Circuit.{Circuit}
use Rattle.sg_circuit.specs.Closed.{IsClosed}
use Rattle.late_limits.specs.Adjusted.{IsAdjustedFrom}

-- what a circuit is adjusted to is one
abbrev pub AdjustedIsOne : Type 0
AdjustedIsOne = (c made other : Circuit) → IsClosed c → IsAdjustedFrom c made → IsAdjustedFrom c other → made ≡ other
