-- What stands when paths are put in: the instances, the paths of their modules, and their rows. No public contract cites it.
use Rattle.std.specs.Prelude.{◌≡◌, ℕ, ◌<◌, ◌≤◌, ◌^◌, List, Option, Some, slice_get, length}
use Rattle.std.specs.Option.{option_and_then, option_map}
use Rattle.sg_circuit.specs.declared.elements.LegTiming.{LegTiming}
use Rattle.sg_delay.specs.declared.corners.Corner.{Corner}
use Rattle.vl_tree.specs.Tree.{Module, Source}
use Rattle.elab_model.specs.Hierarchy.{Instance, instances}
use Rattle.elab_model.specs.HierarchyFaults.{count_limit}
use Rattle.elab_hierarchy.specs.Placing.{IsPlaced, ArePlaced}
use Rattle.elab_hierarchy.specs.declared.instances.Placed.{Placed}
use Rattle.elab_elements.specs.Reached.{IsLibrary}
use Rattle.elab_elements.specs.Library.{Library}
use Rattle.elab_elements.specs.Rows.{HaveRows}
use Rattle.elab_elements.specs.RowsType.{Rows}
use Rattle.elab_paths.specs.Ready.{HavePaths}
use Rattle.elab_paths.specs.declared.modules.ModulePaths.{ModulePaths}
use Rattle.elab_paths.specs.declared.shelving.ReadyOutput.{ReadyOutput}

pub record AreStanding (source : Source) (top : Module) (corner : Corner) (library : Library) (modules : ModulePaths) (placed : List Placed) (rows : Rows) : Type 0 where
  pub are_placed : ArePlaced source placed (instances source top)
  pub few : length placed ≤ count_limit
  pub is_ready : IsLibrary source corner top library
  pub have_rows : HaveRows source top rows
  pub legs : LegTiming
  pub have_paths : HavePaths source top corner legs modules

-- and an instance at its place
pub record IsStanding (source : Source) (top : Module) (corner : Corner) (library : Library) (modules : ModulePaths) (placed : List Placed) (rows : Rows) (number : ℕ) (p : Placed) (s : Instance) : Type 0 where
  pub standing : AreStanding source top corner library modules placed rows
  pub there : slice_get (instances source top) number ≡ Some s
  pub is_placed : IsPlaced source p s
  pub below : number < 2 ^ 22

-- the output bits of the module at a place
abbrev pub outputs_at : ModulePaths → ℕ → Option (List ReadyOutput)
outputs_at modules place = option_and_then (λ o. option_map (λ v. v.items) o) (slice_get modules.outputs.items place)
