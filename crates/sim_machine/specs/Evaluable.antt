-- When a circuit's elements can be evaluated.
use Rattle.std.specs.Prelude.{◌≡◌, All, List, length}
use Rattle.sg_logic.specs.declared.values.Value.{Value}
use Rattle.sg_circuit.specs.Closed.{IsClosed}
use Rattle.sg_circuit.specs.Seen.{circuit_seen, AreIndexed}
use Rattle.sg_circuit.specs.declared.circuits.Parts.{Parts}
use Rattle.udp_table.specs.declared.table.Table.{Table}
use Rattle.sim_machine.specs.declared.computing.Inputs.{Inputs}
use Rattle.sim_machine.specs.Inputs.{HasRoom}
use Rattle.sim_machine.specs.Elements.{AreTables}

-- the parts are those of a circuit, each primitive has its table, each element a value, and there is room for the inputs
-- of each
pub record AreEvaluable (parts : Parts) (tables : List Table) (states : List Value) (inputs : Inputs) : Type 0 where
  pub closed : IsClosed (circuit_seen parts)
  pub indexed : AreIndexed parts
  pub tables_are : AreTables parts.udps.items tables
  pub state_of_each : length states ≡ length (circuit_seen parts).elements
  pub room : All (λ e. HasRoom inputs (length e.inputs)) (circuit_seen parts).elements
