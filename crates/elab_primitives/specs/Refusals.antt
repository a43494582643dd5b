-- What a refusal of a primitive says.
use Rattle.std.specs.Prelude.{◌≡◌, ◌⊎◌, []}
use Rattle.std.specs.List.{IsAmong}
use Rattle.sg_text.specs.declared.places.Place.{Place}
use Rattle.sg_text.specs.declared.refusals.Refused.{Refused}
use Rattle.sg_text.specs.declared.refusals.Refused.TheVariants as refused
use Rattle.udp_rows.specs.declared.faults.UdpKind.{UdpKind}
use Rattle.vl_tree.specs.Tree.{Primitive}
use Rattle.elab_model.specs.declared.kinds.ElabKind.{ElabKind}
use Rattle.elab_model.specs.declared.kinds.ElabKind.TheVariants.{Udp}
use Rattle.elab_model.specs.Faults.{fault}
use Rattle.elab_model.specs.PrimitiveFaults.{primitive_faults, TableFault}

-- a fault of the table stands, as a kind of elaboration's
pub record IsOfTable (p : Primitive) (kind : ElabKind) (place : Place) : Type 0 where
  pub in_table : UdpKind
  pub named : kind ≡ Udp in_table
  pub stands : TableFault p in_table place

abbrev pub RefusesTable : Primitive → Refused ElabKind → Type 0
RefusesTable p (refused.Fault kind place) = IsOfTable p kind place
RefusesTable p refused.NoMemory = Unit {0}

abbrev pub RefusesPrimitive : Primitive → Refused ElabKind → Type 0
RefusesPrimitive p (refused.Fault kind place) = IsAmong (primitive_faults p) (fault kind place) ⊎ IsOfTable p kind place
RefusesPrimitive p refused.NoMemory = Unit {0}

-- neither the declarations nor the table have a fault
pub record IsFaultless (p : Primitive) : Type 0 where
  pub declarations : primitive_faults p ≡ []
  pub table : (kind : UdpKind) (place : Place) → ¬ TableFault p kind place
