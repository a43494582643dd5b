-- All faults of a netlist but those of primitives' tables.
use Rattle.std.specs.Prelude.{ℕ, ℤ, List, [], ◌∷◌, ◌++◌, nat_lt, Option, Result, Ok, Err, drop, flat_map, length, map}
use Rattle.sg_delay.specs.declared.corners.Corner.{Corner}
use Rattle.vl_tree.specs.Tree.{Module, Source}
use Rattle.elab_model.specs.declared.kinds.ElabKind.{ElabKind}
use Rattle.elab_model.specs.declared.kinds.ElabKind.TheVariants.{SpecifyInHierarchy, TooMany}
use Rattle.elab_model.specs.Delays.{tick_of}
use Rattle.elab_model.specs.Faults.{Fault, fault, fault_if}
use Rattle.elab_model.specs.Hierarchy.{instances}
use Rattle.elab_model.specs.Drivers.{elements}
use Rattle.elab_model.specs.HierarchyFaults.{two_definitions, count_limit, start, first_too_many, too_deep, instance_faults_below}
use Rattle.elab_model.specs.Nets.{nets}
use Rattle.elab_model.specs.Tops.{top_of}
use Rattle.specify_model.specs.CheckFaults.{timing_check_faults}
use Rattle.specify_model.specs.Faults.{blocks_in_hierarchy, specify_faults}
use Rattle.circuit_model.specs.CheckUses.{check_uses}
use Rattle.circuit_model.specs.PathUses.{path_uses}
use Rattle.circuit_model.specs.Driving.{driving_faults}
use Rattle.circuit_model.specs.Circuits.{driving}

-- a module has both a specify block and an instance of a module, at each block; and what its blocks say
abbrev pub module_path_faults : Source → Corner → ℤ → Module → List Fault
module_path_faults source corner tick m = map (fault SpecifyInHierarchy) (blocks_in_hierarchy source m) ++ specify_faults corner tick m

abbrev pub path_faults : Source → Module → Corner → List Fault
path_faults source top corner = flat_map (λ s. module_path_faults source corner (tick_of source top) s.step.definition) (instances source top)

-- what timing checks say
abbrev pub check_faults : Source → Module → Corner → List Fault
check_faults source top corner = flat_map (λ s. timing_check_faults corner (tick_of source top) s.step.definition) (instances source top)

-- too many instances, nets, elements, specify paths or timing checks; a path is one from an input bit to an output bit of an instance
abbrev pub path_count : Source → Module → Corner → ℕ
path_count source top corner = length (flat_map (λ u. u.paths) (path_uses source top corner))

abbrev pub over : ℕ → List Fault
over n = fault_if (nat_lt count_limit n) TooMany start

abbrev pub too_many : Source → Module → Corner → List Fault
too_many source top corner =
    first_too_many (drop count_limit (instances source top))
    ++ (over (length (nets source top)) ++ (over (length (elements source top corner)) ++ (over (path_count source top corner) ++ over (length (check_uses source top corner)))))

-- a second driver, or a reg that is driven otherwise than by timing checks
abbrev pub driver_faults : Source → Module → Corner → List Fault
driver_faults source top corner = driving_faults (driving source top corner) (length (nets source top))

-- the faults below a top
abbrev pub faults_below : Source → Module → Corner → List Fault
faults_below source top corner =
    flat_map (instance_faults_below source top corner) (instances source top)
    ++ (too_deep source top ++ (path_faults source top corner ++ (check_faults source top corner ++ (too_many source top corner ++ driver_faults source top corner))))

abbrev pub top_faults : Source → Corner → Result Module ElabKind → List Fault
top_faults source corner (Err k) = fault k start ∷ []
top_faults source corner (Ok top) = faults_below source top corner

abbrev pub faults : Source → Option (List ℕ) → Corner → List Fault
faults source name corner = two_definitions source ++ top_faults source corner (top_of source name)
