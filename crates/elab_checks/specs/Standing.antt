-- What stands when the checks of instances are made: the instances, the checks of their modules, and their rows.
use Rattle.std.specs.Prelude.{◌≡◌, ℕ, ◌<◌, ◌≤◌, ◌^◌, List, Option, Some, length, slice_get}
use Rattle.std.specs.Option.{option_and_then, option_map}
use Rattle.cond_expr.specs.Condition.{Condition}
use Rattle.sg_circuit.specs.FanOut.{readers_at}
use Rattle.sg_delay.specs.declared.corners.Corner.{Corner}
use Rattle.vl_tree.specs.Tree.{Module, Source}
use Rattle.elab_model.specs.Drivers.{elements}
use Rattle.elab_model.specs.Hierarchy.{Instance, instances}
use Rattle.elab_model.specs.HierarchyFaults.{count_limit}
use Rattle.circuit_model.specs.CheckUses.{lates_in}
use Rattle.elab_hierarchy.specs.Placing.{IsPlaced, ArePlaced}
use Rattle.elab_hierarchy.specs.declared.instances.Placed.{Placed}
use Rattle.elab_paths.specs.Reached.{IsLibrary}
use Rattle.elab_paths.specs.Library.{Library}
use Rattle.elab_paths.specs.Rows.{HaveRows}
use Rattle.elab_paths.specs.RowsType.{Rows}
use Rattle.elab_checks.specs.Ready.{HaveChecks}
use Rattle.elab_checks.specs.declared.modules.ReadyChecks.{ReadyChecks}
use Rattle.elab_checks.specs.declared.shelving.ReadyCheck.{ReadyCheck}

-- the Lates of the instances, by their numbers
pub record HaveLates (source : Source) (top : Module) (corner : Corner) (lates : List (List ℕ)) : Type 0 where
  pub count : length lates ≡ length (instances source top)
  pub each : (scope : ℕ) → scope < length (instances source top) → readers_at lates scope ≡ lates_in (elements source top corner) scope

-- the instances, of which there aren't too many, their nets, the checks of their modules, and their Lates
pub record AreGiven (source : Source) (top : Module) (corner : Corner) (library : Library) (modules : ReadyChecks) (conditions : List Condition) (placed : List Placed) (rows : Rows) (lates : List (List ℕ)) : Type 0 where
  pub are_placed : ArePlaced source placed (instances source top)
  pub few : length placed ≤ count_limit
  pub is_ready : IsLibrary source corner top library
  pub have_rows : HaveRows source top rows
  pub have_checks : HaveChecks source top corner conditions modules
  pub have_lates : HaveLates source top corner lates

-- and an instance at its place
pub record IsStanding (source : Source) (top : Module) (corner : Corner) (library : Library) (modules : ReadyChecks) (conditions : List Condition) (placed : List Placed) (rows : Rows) (lates : List (List ℕ)) (number : ℕ) (p : Placed) (s : Instance) : Type 0 where
  pub given : AreGiven source top corner library modules conditions placed rows lates
  pub there : slice_get (instances source top) number ≡ Some s
  pub is_placed : IsPlaced source p s
  pub below : number < 2 ^ 22

-- the checks of the module at a place
abbrev pub checks_at : ReadyChecks → ℕ → Option (List ReadyCheck)
checks_at modules place = option_and_then (λ o. option_map (λ v. v.items) o) (slice_get modules.checks.items place)
