-- What is known of the modules that stand ready once their members have been looked at.
use Rattle.std.specs.Prelude.{◌≡◌, ℕ, ◌<◌, ◌≤◌, ◌≤ℤ◌, All, List, [], Option, Some, length, map, flat_map, option_map, slice_get, ℤ}
use Rattle.std.specs.List.{AllByRecursion}
use Rattle.std.specs.Global.{Vec}
use Rattle.sg_delay.specs.declared.corners.Corner.{Corner}
use Rattle.sg_delay.specs.declared.gates.GateDelays.{GateDelays}
use Rattle.sg_text.specs.declared.places.Place.{Place}
use Rattle.sg_text.specs.declared.refusals.Refused.{Refused}
use Rattle.sg_text.specs.declared.refusals.Refused.TheVariants as refused
use Rattle.vl_tree.specs.Tree.{Module, Source}
use Rattle.elab_model.specs.declared.kinds.ElabKind.{ElabKind}
use Rattle.elab_model.specs.Faults.{RefusesOneOf}
use Rattle.elab_model.specs.Members.{members}
use Rattle.elab_model.specs.ModuleFaults.{all_member_faults}
use Rattle.elab_variables.specs.Seen.{view_member}
use Rattle.elab_modules.specs.declared.prepared.Prepared.{Prepared}
use Rattle.elab_modules.specs.declared.library.Ready as code_ready
use Rattle.elab_modules.specs.declared.library.Ready.TheVariants as ready
use Rattle.elab_modules.specs.Ready.{IsPrepared, MemberReady, HasDelays}
use Rattle.elab_modules.specs.Reaching.{IsModuleAt}

-- what the members of each module name stands ready
abbrev pub AreNamed : Source → List (Option code_ready.Ready) → Type 0
AreNamed source parts = (i : ℕ) (p : Prepared) → IsModuleAt parts i p → AllByRecursion (MemberReady source parts) (map view_member p.members.items)

-- no module has a finer precision than a tick
abbrev pub AreInTicks : ℤ → List (Option code_ready.Ready) → Type 0
AreInTicks tick parts = (i : ℕ) (p : Prepared) → IsModuleAt parts i p → tick ≤ℤ p.definition.now.mark.scale.precision.power

-- the members of a module have no fault, and their delays stand in the table
pub record IsChecked (source : Source) (corner : Corner) (tick : ℤ) (table : List GateDelays) (places : Option (List ℕ)) (p : Prepared) : Type 0 where
  pub list : List ℕ
  pub listed : places ≡ Some list
  pub in_ticks : (m : Module) → IsPrepared p m → HasDelays corner tick m table list
  pub faultless : (m : Module) → IsPrepared p m → flat_map (all_member_faults source corner tick m) (members m) ≡ []

-- a part is this module
abbrev pub IsModule : Option code_ready.Ready → Prepared → Type 0
IsModule part p = part ≡ Some (ready.Module p)

-- a fault of a member of the module that a part is
pub record IsOfOne (source : Source) (corner : Corner) (tick : ℤ) (part : Option code_ready.Ready) (kind : ElabKind) (place : Place) : Type 0 where
  pub prepared : Prepared
  pub there : IsModule part prepared
  pub stands : (m : Module) → IsPrepared prepared m → RefusesOneOf (flat_map (all_member_faults source corner tick m) (members m)) (refused.Fault kind place)

abbrev pub RefusesOne : Source → Corner → ℤ → Option code_ready.Ready → Refused ElabKind → Type 0
RefusesOne source corner tick part (refused.Fault kind place) = IsOfOne source corner tick part kind place
RefusesOne source corner tick part refused.NoMemory = Unit {0}

-- the first so many parts were looked at
pub record AreChecked (source : Source) (corner : Corner) (tick : ℤ) (parts : List (Option code_ready.Ready)) (count : ℕ) (table : List GateDelays) (delays : List (Vec ℕ)) : Type 0 where
  pub counted : length delays ≡ count
  pub counts : All (λ d. d.count ≤ 3) table
  pub each : (i : ℕ) (p : Prepared) → i < count → IsModuleAt parts i p → IsChecked source corner tick table (option_map (λ list. list.items) (slice_get delays i)) p

-- a fault of a member of one of the modules
pub record IsOfPart (source : Source) (corner : Corner) (tick : ℤ) (parts : List (Option code_ready.Ready)) (kind : ElabKind) (place : Place) : Type 0 where
  pub at : ℕ
  pub part : Option code_ready.Ready
  pub there : slice_get parts at ≡ Some part
  pub stands : IsOfOne source corner tick part kind place

abbrev pub RefusesPart : Source → Corner → ℤ → List (Option code_ready.Ready) → Refused ElabKind → Type 0
RefusesPart source corner tick parts (refused.Fault kind place) = IsOfPart source corner tick parts kind place
RefusesPart source corner tick parts refused.NoMemory = Unit {0}
