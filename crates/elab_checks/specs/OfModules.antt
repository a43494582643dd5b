-- What stands ready while the modules of instances are looked at. No public contract cites it.
use Rattle.std.specs.Prelude.{◌≡◌, ℕ, ℤ, All, List, [], ◌++◌, Option, Some, length, map, slice_get}
use Rattle.std.specs.Global.{Vec}
use Rattle.cond_expr.specs.Condition.{Condition}
use Rattle.sg_delay.specs.declared.corners.Corner.{Corner}
use Rattle.sg_text.specs.declared.refusals.Refused.{Refused}
use Rattle.vl_tree.specs.Tree.{Module, Source}
use Rattle.elab_model.specs.declared.kinds.ElabKind.{ElabKind}
use Rattle.elab_model.specs.Faults.{RefusesOneOf}
use Rattle.elab_model.specs.Names.{variables}
use Rattle.specify_model.specs.CheckFaults.{timing_check_faults}
use Rattle.specify_model.specs.Checks.{timing_checks}
use Rattle.elab_laws.specs.Words.{In}
use Rattle.elab_hierarchy.specs.Tops.{StandsAt}
use Rattle.elab_checks.specs.Ready.{check_ready, copies_in, IsReadyCheck}
use Rattle.elab_checks.specs.declared.shelving.ReadyCheck.{ReadyCheck}

-- these are the checks of a module, whatever comes behind what stands in the table
pub record AreChecksOf (corner : Corner) (tick : ℤ) (m : Module) (conditions : List Condition) (list : List ReadyCheck) : Type 0 where
  pub checks : (more : List Condition) → map (check_ready (conditions ++ more) (variables m) (copies_in m)) list ≡ timing_checks corner tick m
  pub named : All (IsReadyCheck (variables m) (length conditions) (length (copies_in m))) list

-- and none has a fault
pub record AreSoundChecks (corner : Corner) (tick : ℤ) (m : Module) (conditions : List Condition) (list : List ReadyCheck) : Type 0 where
  pub are : AreChecksOf corner tick m conditions list
  pub faultless : timing_check_faults corner tick m ≡ []

-- what stands ready so far, by the places of definitions, is of the modules there
pub record AreReadySoFar (source : Source) (corner : Corner) (tick : ℤ) (checks : List (Option (Vec ReadyCheck))) (conditions : List Condition) : Type 0 where
  pub counted : length checks ≡ length source
  pub each : (i : ℕ) (list : Vec ReadyCheck) (m : Module) → slice_get checks i ≡ Some (Some list) → StandsAt source i m → AreSoundChecks corner tick m conditions list.items

-- something stands ready at a place
abbrev pub HasReady : List (Option (Vec ReadyCheck)) → ℕ → Type 0
HasReady checks i = (list : Vec ReadyCheck) × (slice_get checks i ≡ Some (Some list))

-- a fault of the module at one of some places
pub record IsOfPlace (source : Source) (corner : Corner) (tick : ℤ) (places : List ℕ) (r : Refused ElabKind) : Type 0 where
  pub at : ℕ
  pub there : In at places
  pub stands : (m : Module) → StandsAt source at m → RefusesOneOf (timing_check_faults corner tick m) r
