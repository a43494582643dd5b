-- Elaboration: the circuit of a netlist where no fault stands, and else a fault that stands.
use Rattle.std.specs.Prelude.{◌≡◌, ℕ, List, Option, Result, Ok, Err}
use Rattle.std.specs.List.{IsAmong}
use Rattle.sg_circuit.specs.Circuit.{Circuit}
use Rattle.sg_delay.specs.declared.corners.Corner.{Corner}
use Rattle.sg_text.specs.declared.places.Place.{Place}
use Rattle.sg_text.specs.declared.refusals.Refused.{Refused}
use Rattle.sg_text.specs.declared.refusals.Refused.TheVariants as refused
use Rattle.udp_rows.specs.declared.faults.UdpKind.{UdpKind}
use Rattle.vl_tree.specs.Tree.{Primitive, Module, Source}
use Rattle.late_limits.specs.Adjusted.{IsAdjustedFrom}
use Rattle.elab_model.specs.declared.kinds.ElabKind.{ElabKind}
use Rattle.elab_model.specs.declared.kinds.ElabKind.TheVariants.{Udp}
use Rattle.elab_model.specs.Tops.{top_of}
use Rattle.elab_model.specs.PrimitiveFaults.{TableFault, primitives}
use Rattle.elab_model.specs.Faults.{Fault}
use Rattle.circuit_model.specs.Circuits.{circuit}
use Rattle.circuit_model.specs.Faults.{faults}

-- a fault of a kind stands at a place; several may stand
pub data FaultStands (source : Source) (name : Option (List ℕ)) (corner : Corner) : ElabKind → Place → Type 0 where
  in_list : {f : Fault} → IsAmong (faults source name corner) f → FaultStands source name corner f.kind f.place
  in_table : {p : Primitive} {kind : UdpKind} {place : Place} → IsAmong (primitives source (top_of source name)) p → TableFault p kind place
      → FaultStands source name corner (Udp kind) place

-- none does
abbrev pub HasNoFault : Source → Option (List ℕ) → Corner → Type 0
HasNoFault source name corner = (kind : ElabKind) (place : Place) → ¬ FaultStands source name corner kind place

-- there is no fault, and it is the circuit below the top, adjusted: its Lates have the least delays by which limits below 0 are met (15.8)
pub record IsElaborated (source : Source) (name : Option (List ℕ)) (corner : Corner) (made : Circuit) : Type 0 where
  pub top : Module
  pub is_top : top_of source name ≡ Ok top
  pub no_fault : HasNoFault source name corner
  pub is_circuit : IsAdjustedFrom (circuit source top corner) made

-- a refusal tells a fault that stands, or that there was no memory
abbrev pub RefusalStands : Source → Option (List ℕ) → Corner → Refused ElabKind → Type 0
RefusalStands source name corner (refused.Fault kind place) = FaultStands source name corner kind place
RefusalStands source name corner refused.NoMemory = Unit {0}

-- what elaboration may answer
abbrev pub Elaborates : Source → Option (List ℕ) → Corner → Result Circuit (Refused ElabKind) → Type 0
Elaborates source name corner (Ok made) = IsElaborated source name corner made
Elaborates source name corner (Err r) = RefusalStands source name corner r
