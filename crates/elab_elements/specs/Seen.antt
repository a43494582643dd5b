-- The code's elements, as the definitions see them: with the tables that they name places of.
use Rattle.std.specs.Prelude.{◌≡◌, ◌<◌, ◌≤◌, List, [], map, length}
use Rattle.std.specs.List.{AllByRecursion}
use Rattle.sg_delay.specs.declared.corners.Corner.{Corner}
use Rattle.sg_delay.specs.declared.gates.GateDelays.{GateDelays}
use Rattle.sg_circuit.specs.Circuit.{Element, Kind, Gate, Udp, Pass, Path, Late}
use Rattle.sg_circuit.specs.Seen.{delays_at, udp_at}
use Rattle.sg_circuit.specs.declared.elements.Element as code
use Rattle.sg_circuit.specs.declared.elements.ElementKind.{ElementKind}
use Rattle.sg_circuit.specs.declared.elements.ElementKind.TheVariants as kind
use Rattle.sg_circuit.specs.declared.elements.UdpUse.{UdpUse}
use Rattle.vl_tree.specs.Tree.{Module, Source}
use Rattle.elab_model.specs.Numbered.{element_of}
use Rattle.elab_model.specs.Drivers.{elements as components}
use Rattle.elab_model.specs.Elements.{leg_kind}
use Rattle.elab_model.specs.HierarchyFaults.{count_limit}
use Rattle.elab_model.specs.Nets.{nets}
use Rattle.elab_elements.specs.declared.placing.Placing.{Placing}

-- what a kind stands for, where all Legs are those of `leg_kind` and no Path has its paths yet
abbrev pub kind_in : List GateDelays → List UdpUse → ElementKind → Kind
kind_in delays udps (kind.Gate g d) = Gate g (delays_at delays d)
kind_in delays udps (kind.Udp u d) = Udp (udp_at udps u).rows (udp_at udps u).first (delays_at delays d)
kind_in delays udps (kind.Pass v) = Pass v
kind_in delays udps (kind.Leg t) = leg_kind
kind_in delays udps (kind.Path paths style) = Path [] style
kind_in delays udps (kind.Late d) = Late d

abbrev pub element_in : List GateDelays → List UdpUse → code.Element → Element
element_in delays udps e = record { scope = e.scope; inputs = e.inputs.items; output = e.output; kind = kind_in delays udps e.kind }

-- what a kind names stands in its table; the timing of all Legs is the first, a Path names no paths yet, and no Late has its delay yet
abbrev pub NamesPlaces : List GateDelays → List UdpUse → ElementKind → Type 0
NamesPlaces delays udps (kind.Gate g d) = d < length delays
NamesPlaces delays udps (kind.Udp u d) = (u < length udps) × (d < length delays)
NamesPlaces delays udps (kind.Pass v) = Unit {0}
NamesPlaces delays udps (kind.Leg t) = t ≡ 0
NamesPlaces delays udps (kind.Path paths style) = Unit {0}
NamesPlaces delays udps (kind.Late d) = d ≡ 0

-- all elements are there, in order, where no Path has its paths yet
pub record AreElements (source : Source) (top : Module) (corner : Corner) (delays : List GateDelays) (udps : List UdpUse) (made : Placing) : Type 0 where
  pub elements : map (element_in delays udps) made.elements.items ≡ map (element_of (nets source top)) (components source top corner)
  pub places : made.places.items ≡ map (λ e. e.place) (components source top corner)
  pub named : AllByRecursion (λ e. NamesPlaces delays udps e.kind) made.elements.items
  pub few : length made.elements.items ≤ count_limit
