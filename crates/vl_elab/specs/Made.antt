-- What stands when the parts of a circuit have been made, one after another.
use Rattle.std.specs.Prelude.{◌≡◌, ◌≤◌, List, [], ◌∷◌, length, map, replicate, None}
use Rattle.sg_circuit.specs.Seen.{scope_seen}
use Rattle.sg_circuit.specs.Timings.{Timing}
use Rattle.sg_circuit.specs.declared.nets.Driver.{Driver}
use Rattle.sg_circuit.specs.declared.nets.Net.{Net}
use Rattle.sg_circuit.specs.declared.scopes.Scope.{Scope}
use Rattle.sg_delay.specs.declared.corners.Corner.{Corner}
use Rattle.sg_time.specs.declared.units.Unit as unit
use Rattle.vl_tree.specs.Tree.{Module, Source}
use Rattle.elab_model.specs.Delays.{tick_of}
use Rattle.elab_model.specs.Drivers.{elements}
use Rattle.elab_model.specs.Hierarchy.{instances}
use Rattle.elab_model.specs.HierarchyFaults.{count_limit}
use Rattle.elab_model.specs.Nets.{nets, number_of}
use Rattle.elab_model.specs.Scopes.{scope_of}
use Rattle.circuit_model.specs.CheckUses.{check_uses}
use Rattle.circuit_model.specs.Circuits.{driving}
use Rattle.circuit_model.specs.Faults.{path_faults, faults_below}
use Rattle.elab_drivers.specs.Tables.{HasDrivers}
use Rattle.elab_hierarchy.specs.Placing.{ArePlaced, tree_faults}
use Rattle.elab_hierarchy.specs.declared.instances.Placed.{Placed}
use Rattle.elab_checks.specs.Reached.{IsLibrary}
use Rattle.elab_checks.specs.Library.{Library}
use Rattle.elab_checks.specs.Rows.{HaveRows}
use Rattle.elab_checks.specs.RowsType.{Rows}
use Rattle.elab_checks.specs.Placing.{Placing}
use Rattle.elab_checks.specs.AllPaths.{HaveAllPaths}
use Rattle.elab_checks.specs.ShelvingOfPaths.{ListGrows}
use Rattle.elab_checks.specs.ModulePaths.{ModulePaths}
use Rattle.elab_checks.specs.Standing.{HaveLates}
use Rattle.elab_checks.specs.Uses.{AreUses}
use Rattle.elab_checks.specs.declared.uses.CheckTables.{CheckTables}
use Rattle.vl_elab.specs.declared.elements.ElementTables.{ElementTables}

-- the instances of a top, whose hierarchy has no fault, and its tick
pub record AreBelow (source : Source) (top : Module) (tick : unit.Unit) (placed : List Placed) : Type 0 where
  pub are_placed : ArePlaced source placed (instances source top)
  pub few : length placed ≤ count_limit
  pub shallow : tree_faults source top ≡ []
  pub tick_is : tick.power ≡ tick_of source top

-- the instances of a top, what they are of, and their nets
pub record HaveNets (source : Source) (top : Module) (corner : Corner) (tick : unit.Unit) (placed : List Placed) (ready : Library) (numbers : Rows) : Type 0 where
  pub below : AreBelow source top tick placed
  pub is_ready : IsLibrary source corner top ready
  pub have_rows : HaveRows source top numbers

-- the elements with their paths, and which of them are the Lates of each instance; other conditions may come behind those of paths
pub record HaveElements (source : Source) (top : Module) (corner : Corner) (ready : Library) (made : ElementTables) : Type 0 where
  pub modules : ModulePaths
  pub have_paths : HaveAllPaths source top corner ready modules made.paths.items made.placing
  pub timings_are : made.timings.items ≡ modules.timings.items
  pub conditions_grow : ListGrows modules.conditions.items made.conditions.items
  pub lates : HaveLates source top corner made.lates
  pub faultless : path_faults source top corner ≡ []

-- the instances, what they are of, their nets, and what each element drives
pub record AreMade (source : Source) (top : Module) (corner : Corner) (placed : List Placed) (ready : Library) (numbers : Rows) (made : Placing) : Type 0 where
  pub are_placed : ArePlaced source placed (instances source top)
  pub is_ready : IsLibrary source corner top ready
  pub have_rows : HaveRows source top numbers
  pub outputs : map (λ e. e.output) made.elements.items ≡ map (λ c. number_of (nets source top) c.output) (elements source top corner)
  pub places : made.places.items ≡ map (λ c. c.place) (elements source top corner)
  pub few : length (elements source top corner) ≤ count_limit

-- the table has the driver of each net, and no net has a fault
abbrev pub AreDrivers : Source → Module → Corner → List Driver → Type 0
AreDrivers source top corner table = HasDrivers (length (nets source top)) (driving source top corner) table

-- nets, each with its driver in place of another
abbrev pub driven_by : List Net → List Driver → List Net
driven_by [] ds = []
driven_by (n ∷ ns) [] = n ∷ ns
driven_by (n ∷ ns) (d ∷ ds) = record n { driver = d } ∷ driven_by ns ds

-- all that a circuit is made of, where no fault stands
pub record IsWhole (source : Source) (top : Module) (corner : Corner) (tick : unit.Unit) (ready : Library) (numbers : Rows) (made : ElementTables) (drivers : List Driver) (checks : CheckTables)
    (scopes : List Scope) : Type 0 where
  pub tick_is : tick.power ≡ tick_of source top
  pub is_ready : IsLibrary source corner top ready
  pub have_rows : HaveRows source top numbers
  pub have_elements : HaveElements source top corner ready made
  pub has_drivers : AreDrivers source top corner drivers
  pub are_checks : AreUses made.conditions.items checks (check_uses source top corner)
  pub are_scopes : map (λ s. scope_seen s) scopes ≡ map (scope_of (nets source top) source) (instances source top)
  pub faultless : faults_below source top corner ≡ []

-- the timing of all Legs
abbrev pub none_of_twelve : List Timing
none_of_twelve = replicate 12 (record { delay = 0; limits = None })
