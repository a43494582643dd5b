-- What stands ready while the modules of instances are looked at.
use Rattle.std.specs.Prelude.{◌≡◌, ℕ, All, List, [], ◌++◌, Bool, Option, Some, is_some, length, map, slice_get, ℤ, ◌≤ℤ◌}
use Rattle.std.specs.Global.{Vec}
use Rattle.cond_expr.specs.Condition.{Condition}
use Rattle.sg_circuit.specs.declared.elements.LegTiming.{LegTiming}
use Rattle.sg_delay.specs.declared.corners.Corner.{Corner}
use Rattle.sg_text.specs.declared.refusals.Refused.{Refused}
use Rattle.vl_tree.specs.Tree.{Module, Source}
use Rattle.elab_model.specs.declared.kinds.ElabKind.{ElabKind}
use Rattle.elab_model.specs.Faults.{RefusesOneOf}
use Rattle.elab_model.specs.Hierarchy.{child_of_member}
use Rattle.elab_model.specs.Members.{Member}
use Rattle.elab_model.specs.Names.{variables}
use Rattle.specify_model.specs.Outputs.{path_outputs}
use Rattle.circuit_model.specs.Faults.{module_path_faults}
use Rattle.elab_laws.specs.Handing.{all_bits}
use Rattle.elab_laws.specs.Words.{In}
use Rattle.elab_hierarchy.specs.Tops.{StandsAt}
use Rattle.elab_elements.specs.Ready.{Ready}
use Rattle.elab_elements.specs.Prepared.{Prepared}
use Rattle.elab_elements.specs.ReadyOfModules.{IsPrepared}
use Rattle.elab_elements.specs.Reaching.{IsModuleAt}
use Rattle.elab_paths.specs.Ready.{output_ready, IsReadyOutput}
use Rattle.elab_paths.specs.declared.shelving.ReadyOutput.{ReadyOutput}
use Rattle.elab_paths.specs.declared.shelving.Shelves.{Shelves}

-- whether a member is an instance of a module
abbrev pub is_child : Source → Member → Bool
is_child source x = is_some (child_of_member source 0 x)

-- the module at a place stands ready in the library, and a tick is no greater part than its precision
pub record StandsReady (source : Source) (tick : ℤ) (parts : List (Option Ready)) (place : ℕ) : Type 0 where
  pub prepared : Prepared
  pub there : IsModuleAt parts place prepared
  pub own : Module
  pub stands : StandsAt source place own
  pub is : IsPrepared prepared own
  pub fits : tick ≤ℤ prepared.definition.now.mark.scale.precision.power

-- these are the output bits of a module, whatever comes behind what stands on the shelves
pub record AreOutputsOf (corner : Corner) (tick : ℤ) (m : Module) (shelves : Shelves) (list : List ReadyOutput) : Type 0 where
  pub outputs : (timings : List LegTiming) (conditions : List Condition)
      → map (output_ready (shelves.timings.items ++ timings) (shelves.conditions.items ++ conditions) (variables m)) list ≡ path_outputs corner tick m
  pub named : All (IsReadyOutput (length (all_bits (variables m))) (length shelves.timings.items) (length shelves.conditions.items)) list

-- and it has no fault
pub record AreSoundOutputs (source : Source) (corner : Corner) (tick : ℤ) (m : Module) (shelves : Shelves) (list : List ReadyOutput) : Type 0 where
  pub are : AreOutputsOf corner tick m shelves list
  pub faultless : module_path_faults source corner tick m ≡ []

-- what stands ready so far, by the places of definitions, is of the modules there
pub record AreReadySoFar (source : Source) (corner : Corner) (tick : ℤ) (outputs : List (Option (Vec ReadyOutput))) (shelves : Shelves) : Type 0 where
  pub counted : length outputs ≡ length source
  pub each : (i : ℕ) (list : Vec ReadyOutput) (m : Module) → slice_get outputs i ≡ Some (Some list) → StandsAt source i m → AreSoundOutputs source corner tick m shelves list.items

-- something stands ready at a place
abbrev pub HasOutputs : List (Option (Vec ReadyOutput)) → ℕ → Type 0
HasOutputs outputs i = (list : Vec ReadyOutput) × (slice_get outputs i ≡ Some (Some list))

-- a fault of the module at one of some places
pub record IsOfPlace (source : Source) (corner : Corner) (tick : ℤ) (places : List ℕ) (r : Refused ElabKind) : Type 0 where
  pub at : ℕ
  pub there : In at places
  pub stands : (m : Module) → StandsAt source at m → RefusesOneOf (module_path_faults source corner tick m) r
