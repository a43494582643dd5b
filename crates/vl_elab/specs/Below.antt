-- What elaboration below a top answers.
use Rattle.std.specs.Prelude.{◌≡◌, ◌⊎◌, [], Ok}
use Rattle.std.specs.List.{IsAmong}
use Rattle.late_limits.specs.Adjusted.{IsAdjustedFrom}
use Rattle.sg_circuit.specs.Circuit.{Circuit}
use Rattle.sg_delay.specs.declared.corners.Corner.{Corner}
use Rattle.sg_text.specs.declared.places.Place.{Place}
use Rattle.sg_text.specs.declared.refusals.Refused.{Refused}
use Rattle.sg_text.specs.declared.refusals.Refused.TheVariants as refused
use Rattle.udp_rows.specs.declared.faults.UdpKind.{UdpKind}
use Rattle.vl_tree.specs.Tree.{Module, Primitive, Source}
use Rattle.elab_model.specs.declared.kinds.ElabKind.{ElabKind}
use Rattle.circuit_model.specs.Circuits.{circuit}
use Rattle.elab_model.specs.Faults.{fault}
use Rattle.circuit_model.specs.Faults.{faults_below}
use Rattle.elab_model.specs.PrimitiveFaults.{primitives, TableFault}
use Rattle.elab_checks.specs.Reached.{IsOfReached}

-- there is no fault below the top, and it is the circuit, adjusted
pub record IsBelow (source : Source) (top : Module) (corner : Corner) (made : Circuit) : Type 0 where
  pub faultless : faults_below source top corner ≡ []
  pub tables : (p : Primitive) (kind : UdpKind) (place : Place) → IsAmong (primitives source (Ok top)) p → ¬ TableFault p kind place
  pub is_circuit : IsAdjustedFrom (circuit source top corner) made

-- one of the faults below the top is told, or one of a table, or there was no memory
abbrev pub RefusesBelow : Source → Module → Corner → Refused ElabKind → Type 0
RefusesBelow source top corner (refused.Fault kind place) = IsAmong (faults_below source top corner) (fault kind place) ⊎ IsOfReached source top kind place
RefusesBelow source top corner refused.NoMemory = Unit {0}
