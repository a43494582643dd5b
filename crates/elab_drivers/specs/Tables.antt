-- The table of the drivers of nets.
use Rattle.std.specs.Prelude.{◌≡◌, ℕ, List, [], zip}
use Rattle.sg_circuit.specs.declared.nets.Driver.{Driver}
use Rattle.sg_text.specs.declared.places.Place.{Place}
use Rattle.circuit_model.specs.Driving.{Driving, drivers, driving_faults}

-- what drives nets, by lists of numbers and of places
abbrev pub driving_of : List ℕ → List Place → List ℕ → List Place → List ℕ → Driving
driving_of inputs input_places outputs places regs = record { inputs = zip input_places inputs; outputs = zip places outputs; regs = regs }

-- the table has the driver of each of so many nets, and no net has a fault
pub record HasDrivers (count : ℕ) (d : Driving) (table : List Driver) : Type 0 where
  pub table_is : table ≡ drivers d count
  pub faultless : driving_faults d count ≡ []
