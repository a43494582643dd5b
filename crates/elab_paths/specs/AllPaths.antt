-- What stands before and after the paths of all instances have been put in.
use Rattle.std.specs.Prelude.{◌≡◌, ℕ, ◌<◌, ◌≤◌, List, length, map, slice_index_or}
use Rattle.std.specs.List.{AllByRecursion}
use Rattle.cond_expr.specs.Condition.{Condition}
use Rattle.sg_circuit.specs.Circuit.{Element, Kind, Gate, Udp, Pass, Leg, Path, Late}
use Rattle.sg_circuit.specs.PathsSeen.{paths_seen, spanned, AreIndexedPaths}
use Rattle.sg_circuit.specs.Seen.{delays_at, udp_at, paths_of, AreApart}
use Rattle.sg_circuit.specs.TimingsSeen.{leg_timing_seen, timings_at}
use Rattle.sg_circuit.specs.declared.elements.Element as code
use Rattle.sg_circuit.specs.declared.elements.ElementKind.{ElementKind}
use Rattle.sg_circuit.specs.declared.elements.ElementKind.TheVariants as kind
use Rattle.sg_circuit.specs.declared.elements.LegTiming.{LegTiming}
use Rattle.sg_circuit.specs.declared.elements.UdpUse.{UdpUse}
use Rattle.sg_circuit.specs.declared.paths.Path as code_path
use Rattle.sg_delay.specs.declared.corners.Corner.{Corner}
use Rattle.sg_delay.specs.declared.gates.GateDelays.{GateDelays}
use Rattle.vl_tree.specs.Tree.{Module, Source}
use Rattle.elab_model.specs.Drivers.{elements as components}
use Rattle.elab_model.specs.Elements.{leg_kind}
use Rattle.elab_model.specs.Hierarchy.{instances}
use Rattle.elab_model.specs.HierarchyFaults.{count_limit}
use Rattle.elab_model.specs.Nets.{nets, number_of}
use Rattle.circuit_model.specs.Faults.{path_count}
use Rattle.circuit_model.specs.PathUses.{circuit_elements}
use Rattle.elab_hierarchy.specs.Placing.{ArePlaced}
use Rattle.elab_hierarchy.specs.declared.instances.Placed.{Placed}
use Rattle.elab_elements.specs.Reached.{IsLibrary}
use Rattle.elab_elements.specs.Library.{Library}
use Rattle.elab_elements.specs.Rows.{HaveRows}
use Rattle.elab_elements.specs.RowsType.{Rows}
use Rattle.elab_elements.specs.Seen.{AreElements}
use Rattle.elab_elements.specs.declared.placing.Placing.{Placing}
use Rattle.elab_paths.specs.Ready.{HavePaths}
use Rattle.elab_paths.specs.declared.modules.ModulePaths.{ModulePaths}

-- the instances, of which there aren't too many, the nets and the elements of a netlist, and the paths of its modules; Legs have no delay
pub record AreGiven (source : Source) (top : Module) (corner : Corner) (library : Library) (modules : ModulePaths) (placed : List Placed) (rows : Rows) (made : Placing) : Type 0 where
  pub are_placed : ArePlaced source placed (instances source top)
  pub few : length placed ≤ count_limit
  pub is_ready : IsLibrary source corner top library
  pub have_rows : HaveRows source top rows
  pub are_elements : AreElements source top corner library.gate_delays.items library.udps.items made
  pub legs : LegTiming
  pub without_delay : Leg (leg_timing_seen legs) ≡ leg_kind
  pub have_paths : HavePaths source top corner legs modules

-- the tables whose places the kinds of elements name
pub record Tables : Type 0 where
  pub gate_delays : List GateDelays
  pub udps : List UdpUse
  pub timings : List LegTiming
  pub conditions : List Condition
  pub paths : List code_path.Path

abbrev pub tables_of : Library → ModulePaths → List code_path.Path → Tables
tables_of library modules paths = record {
  gate_delays = library.gate_delays.items;
  udps = library.udps.items;
  timings = modules.timings.items;
  conditions = modules.conditions.items;
  paths = paths;
}

abbrev pub kind_with : Tables → ElementKind → Kind
kind_with t (kind.Gate g d) = Gate g (delays_at t.gate_delays d)
kind_with t (kind.Udp u d) = Udp (udp_at t.udps u).rows (udp_at t.udps u).first (delays_at t.gate_delays d)
kind_with t (kind.Pass v) = Pass v
kind_with t (kind.Leg i) = Leg (timings_at t.timings i)
kind_with t (kind.Path span style) = Path (paths_seen t.conditions t.timings (spanned t.paths span)) style
kind_with t (kind.Late d) = Late d

abbrev pub element_with : Tables → code.Element → Element
element_with t e = record { scope = e.scope; inputs = e.inputs.items; output = e.output; kind = kind_with t e.kind }

abbrev pub NamesTables : Tables → ElementKind → Type 0
NamesTables t (kind.Gate g d) = d < length t.gate_delays
NamesTables t (kind.Udp u d) = (u < length t.udps) × (d < length t.gate_delays)
NamesTables t (kind.Pass v) = Unit {0}
NamesTables t (kind.Leg i) = i < length t.timings
NamesTables t (kind.Path span style) = AreIndexedPaths (length t.conditions) (length t.timings) t.paths span
NamesTables t (kind.Late d) = Unit {0}

-- the elements with their paths, of which no two have one in common; what they drive and where they stand; there aren't too many
pub record HaveAllPaths (source : Source) (top : Module) (corner : Corner) (library : Library) (modules : ModulePaths) (paths : List code_path.Path) (made : Placing) : Type 0 where
  pub elements : map (element_with (tables_of library modules paths)) made.elements.items ≡ circuit_elements source top corner
  pub outputs : map (λ e. e.output) made.elements.items ≡ map (λ c. number_of (nets source top) c.output) (components source top corner)
  pub places : made.places.items ≡ map (λ c. c.place) (components source top corner)
  pub named : AllByRecursion (λ e. NamesTables (tables_of library modules paths) e.kind) made.elements.items
  pub apart : (i j : ℕ) (d : code.Element) → i < j → j < length made.elements.items
      → AreApart (paths_of (slice_index_or made.elements.items i d).kind) (paths_of (slice_index_or made.elements.items j d).kind)
  pub few_elements : length (components source top corner) ≤ count_limit
  pub few_paths : path_count source top corner ≤ count_limit
