-- The law, as a statement.
use Rattle.std.specs.Prelude.{◌≡◌, []}
use Rattle.sg_circuit.specs.Closed.{IsClosed}
use Rattle.sg_delay.specs.declared.corners.Corner.{Corner}
use Rattle.vl_tree.specs.Tree.{Module, Source}
use Rattle.circuit_model.specs.Circuits.{circuit}
use Rattle.circuit_model.specs.Faults.{faults_below}

-- the circuit of a netlist without faults is a circuit: its parts fit together
abbrev pub CircuitIsClosed : Type 0
CircuitIsClosed = (source : Source) (top : Module) (corner : Corner) → faults_below source top corner ≡ [] → IsClosed (circuit source top corner)
