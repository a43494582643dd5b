-- What stands ready when all that a top reaches has been looked at, and what a refusal says.
use Rattle.std.specs.Prelude.{◌≡◌, ◌⊎◌, ℕ, ◌<◌, ◌≤◌, ◌^◌, All, List, Some, Ok, flat_map, length, map, slice_get, option_map}
use Rattle.std.specs.List.{AllByRecursion, IsAmong}
use Rattle.sg_circuit.specs.Seen.{udp_seen}
use Rattle.sg_delay.specs.declared.corners.Corner.{Corner}
use Rattle.sg_text.specs.declared.places.Place.{Place}
use Rattle.sg_text.specs.declared.refusals.Refused.{Refused}
use Rattle.sg_text.specs.declared.refusals.Refused.TheVariants as refused
use Rattle.udp_rows.specs.declared.faults.UdpKind.{UdpKind}
use Rattle.vl_tree.specs.Tree.{Module, Primitive, Source}
use Rattle.elab_model.specs.declared.kinds.ElabKind.{ElabKind}
use Rattle.elab_model.specs.Delays.{tick_of}
use Rattle.elab_model.specs.Faults.{Fault, fault}
use Rattle.elab_model.specs.Hierarchy.{Instance, instances}
use Rattle.elab_model.specs.Members.{members}
use Rattle.elab_model.specs.ModuleFaults.{module_faults}
use Rattle.elab_model.specs.PrimitiveFaults.{primitives, TableFault}
use Rattle.elab_model.specs.UsedPrimitives.{used_primitives}
use Rattle.elab_laws.specs.Laws.{AreSound}
use Rattle.elab_hierarchy.specs.Tops.{StandsAt}
use Rattle.elab_primitives.specs.Refusals.{IsOfTable}
use Rattle.elab_modules.specs.declared.library.Library.{Library}
use Rattle.elab_modules.specs.Ready.{AreReady, HaveUdps, HasReady, MemberReady, HasDelays}

-- what stands ready of a module at its place: itself, and its members' delays
pub record IsReadyAt (source : Source) (corner : Corner) (top : Module) (library : Library) (m : Module) (place : ℕ) : Type 0 where
  pub ready : HasReady library.parts.items place
  pub delays : List ℕ
  pub listed : option_map (λ list. list.items) (slice_get library.delays.items place) ≡ Some delays
  pub in_ticks : HasDelays corner (tick_of source top) m library.gate_delays.items delays

-- a module of an instance stands ready wherever it stands, and so does what its members name
pub record IsReached (source : Source) (corner : Corner) (top : Module) (library : Library) (s : Instance) : Type 0 where
  pub stands : (place : ℕ) → StandsAt source place s.step.definition → IsReadyAt source corner top library s.step.definition place
  pub named : AllByRecursion (MemberReady source library.parts.items) (members s.step.definition)

pub record IsLibrary (source : Source) (corner : Corner) (top : Module) (library : Library) : Type 0 where
  pub ready : AreReady source library.parts.items
  pub udps : HaveUdps source library.udps.items library.parts.items
  pub listed : map (λ u. udp_seen u) library.udps.items ≡ used_primitives source top
  pub few_udps : length library.udps.items < 2 ^ 31
  pub counts : All (λ d. d.count ≤ 3) library.gate_delays.items
  pub reached : AllByRecursion (IsReached source corner top library) (instances source top)
  pub sound : AreSound source top corner
  pub tables : (p : Primitive) (kind : UdpKind) (place : Place) → IsAmong (primitives source (Ok top)) p → ¬ TableFault p kind place

-- the faults of the modules that a top reaches
abbrev pub reached_faults : Source → Corner → Module → List Fault
reached_faults source corner top = flat_map (λ s. module_faults source corner (tick_of source top) s.step.definition) (instances source top)

-- one of them stands, or one of the tables of the primitives that it reaches
pub record IsOfReached (source : Source) (top : Module) (kind : ElabKind) (place : Place) : Type 0 where
  pub primitive : Primitive
  pub there : IsAmong (primitives source (Ok top)) primitive
  pub stands : IsOfTable primitive kind place

abbrev pub RefusesReached : Source → Corner → Module → Refused ElabKind → Type 0
RefusesReached source corner top (refused.Fault kind place) = IsAmong (reached_faults source corner top) (fault kind place) ⊎ IsOfReached source top kind place
RefusesReached source corner top refused.NoMemory = Unit {0}
