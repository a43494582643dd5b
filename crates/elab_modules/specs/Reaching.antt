-- What stands ready while the modules that a top reaches are met, and what is refused of them.
use Rattle.std.specs.Prelude.{◌≡◌, ◌⊎◌, ℕ, ◌<◌, ◌^◌, List, [], ◌++◌, Option, Some, None, length, map, filter_map, flat_map, slice_get, ℤ}
use Rattle.std.specs.List.{AllByRecursion, IsAmong}
use Rattle.sg_circuit.specs.declared.elements.UdpUse.{UdpUse}
use Rattle.sg_circuit.specs.Seen.{udp_seen}
use Rattle.sg_delay.specs.declared.corners.Corner.{Corner}
use Rattle.sg_text.specs.declared.places.Place.{Place}
use Rattle.sg_text.specs.declared.refusals.Refused.{Refused}
use Rattle.sg_text.specs.declared.refusals.Refused.TheVariants as refused
use Rattle.vl_tree.specs.Tree.{Module, Primitive, Part, Source, a_module, a_primitive}
use Rattle.elab_model.specs.declared.kinds.ElabKind.{ElabKind}
use Rattle.elab_model.specs.Definitions.{primitive_of}
use Rattle.elab_model.specs.PrimitiveFaults.{member_primitive}
use Rattle.elab_model.specs.Faults.{fault}
use Rattle.elab_model.specs.Members.{Member, assignment, supply, gate, instance, path, check, members}
use Rattle.elab_model.specs.ModuleFaults.{module_faults}
use Rattle.elab_model.specs.UsedPrimitives.{first_uses, used}
use Rattle.elab_laws.specs.Words.{In}
use Rattle.elab_variables.specs.Seen.{view_member}
use Rattle.elab_hierarchy.specs.Named.{place_of}
use Rattle.elab_hierarchy.specs.Tops.{StandsAt}
use Rattle.elab_primitives.specs.Refusals.{IsOfTable, RefusesPrimitive}
use Rattle.elab_modules.specs.declared.prepared.Prepared.{Prepared}
use Rattle.elab_modules.specs.declared.library.Ready as code_ready
use Rattle.elab_modules.specs.declared.library.Ready.TheVariants as ready
use Rattle.elab_modules.specs.Ready.{AreReady, HaveUdps, HasReady}

-- this module stands ready at a place
abbrev pub IsModuleAt : List (Option code_ready.Ready) → ℕ → Prepared → Type 0
IsModuleAt parts i p = slice_get parts i ≡ Some (Some (ready.Module p))

-- what stands ready, with the tables of its primitives
pub record IsStock (source : Source) (parts : List (Option code_ready.Ready)) (udps : List UdpUse) : Type 0 where
  pub ready : AreReady source parts
  pub tables : HaveUdps source udps parts
  pub few : length udps < 2 ^ 31

-- what was ready is still, and no module more
pub record KeepsModules (before after : List (Option code_ready.Ready)) : Type 0 where
  pub kept : (i : ℕ) → HasReady before i → HasReady after i
  pub same : (i : ℕ) (p : Prepared) → IsModuleAt after i p → IsModuleAt before i p

-- the primitive that a member names stands ready, if it names one
abbrev pub IsNameReady : Source → List (Option code_ready.Ready) → List ℕ → Type 0
IsNameReady source parts n = (i : ℕ) (p : Primitive) → place_of source n ≡ Some i → slice_get source i ≡ Some (a_primitive p) → HasReady parts i

abbrev pub IsUdpReady : Source → List (Option code_ready.Ready) → Member → Type 0
IsUdpReady source parts (assignment j) = Unit {0}
IsUdpReady source parts (supply n v) = Unit {0}
IsUdpReady source parts (gate g d i) = Unit {0}
IsUdpReady source parts (instance n d i) = IsNameReady source parts n.text
IsUdpReady source parts (path p) = Unit {0}
IsUdpReady source parts (check c) = Unit {0}

-- the tables are those of the primitives that were met, in order of first use; these stand ready, and no others
pub record AreFirst (source : Source) (parts : List (Option code_ready.Ready)) (udps : List UdpUse) (met : List Primitive) : Type 0 where
  pub tables : map (λ u. udp_seen u) udps ≡ map used (first_uses [] met)
  pub stand : (p : Primitive) → In p met → IsNameReady source parts p.name.text
  pub only : (i k : ℕ) (p : Primitive) → slice_get parts i ≡ Some (Some (ready.Primitive k)) → slice_get source i ≡ Some (a_primitive p) → In p met

-- a stock to which the primitives of some members were added
pub record Stocked (source : Source) (before after : List (Option code_ready.Ready)) (tables udps : List UdpUse) (ms : List Member) : Type 0 where
  pub stock : IsStock source after udps
  pub keeps : KeepsModules before after
  pub named : AllByRecursion (IsUdpReady source after) ms
  pub first : (met : List Primitive) → AreFirst source before tables met → AreFirst source after udps (met ++ filter_map (member_primitive source) ms)

-- the primitives that are named in the module at a place
abbrev pub primitives_of : Source → Option Part → List Primitive
primitives_of source None = []
primitives_of source (Some (a_primitive p)) = []
primitives_of source (Some (a_module m)) = filter_map (member_primitive source) (members m)

abbrev pub primitives_at : Source → ℕ → List Primitive
primitives_at source i = primitives_of source (slice_get source i)

-- the modules at some places stand ready, and no others; and what their members name, if it is a primitive
pub record HasMet (source : Source) (parts : List (Option code_ready.Ready)) (udps : List UdpUse) (places : List ℕ) : Type 0 where
  pub stock : IsStock source parts udps
  pub named : (i : ℕ) (p : Prepared) → IsModuleAt parts i p → AllByRecursion (IsUdpReady source parts) (map view_member p.members.items)
  pub only : (i : ℕ) (p : Prepared) → IsModuleAt parts i p → In i places
  pub there : (i : ℕ) (m : Module) → In i places → StandsAt source i m → HasReady parts i
  pub first : AreFirst source parts udps (flat_map (primitives_at source) places)

-- a fault of the primitive of a name
pub record IsOfNamed (source : Source) (n : List ℕ) (kind : ElabKind) (place : Place) : Type 0 where
  pub primitive : Primitive
  pub named : primitive_of source n ≡ Some primitive
  pub stands : RefusesPrimitive primitive (refused.Fault kind place)

abbrev pub RefusesNamed : Source → List ℕ → Refused ElabKind → Type 0
RefusesNamed source n (refused.Fault kind place) = IsOfNamed source n kind place
RefusesNamed source n refused.NoMemory = Unit {0}

-- a fault of the primitive that one of some members names
pub record IsOfMember (source : Source) (ms : List Member) (kind : ElabKind) (place : Place) : Type 0 where
  pub member : Member
  pub there : In member ms
  pub primitive : Primitive
  pub named : member_primitive source member ≡ Some primitive
  pub stands : RefusesPrimitive primitive (refused.Fault kind place)

abbrev pub RefusesMembers : Source → List Member → Refused ElabKind → Type 0
RefusesMembers source ms (refused.Fault kind place) = IsOfMember source ms kind place
RefusesMembers source ms refused.NoMemory = Unit {0}

-- a fault of a module, whatever the ticks, or of the table of a primitive that its members name
pub record IsOfUdp (source : Source) (m : Module) (kind : ElabKind) (place : Place) : Type 0 where
  pub primitive : Primitive
  pub there : In primitive (filter_map (member_primitive source) (members m))
  pub stands : IsOfTable primitive kind place

abbrev pub RefusesModule : Source → Module → Refused ElabKind → Type 0
RefusesModule source m (refused.Fault kind place) = ((corner : Corner) (tick : ℤ) → IsAmong (module_faults source corner tick m) (fault kind place)) ⊎ IsOfUdp source m kind place
RefusesModule source m refused.NoMemory = Unit {0}

-- so is the module at one of some places
pub record IsMetAt (source : Source) (places : List ℕ) (kind : ElabKind) (place : Place) : Type 0 where
  pub at : ℕ
  pub there : In at places
  pub stands : (m : Module) → StandsAt source at m → RefusesModule source m (refused.Fault kind place)

abbrev pub RefusesMet : Source → List ℕ → Refused ElabKind → Type 0
RefusesMet source places (refused.Fault kind place) = IsMetAt source places kind place
RefusesMet source places refused.NoMemory = Unit {0}
