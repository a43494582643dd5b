-- What the code's circuit stands for: its parts as lists, and each element with the delays that it names.
use Rattle.std.specs.Prelude.{ℕ, ◌<◌, ◌≤◌, ◌^◌, false, All, List, [], length, map, take, Option, Some, None, IfSome, slice_index_or}
use Rattle.sg_logic.specs.declared.values.Value.TheVariants.{X}
use Rattle.sg_delay.specs.declared.gates.GateDelays.{GateDelays}
use Rattle.sg_circuit.specs.Circuit.{Circuit, Kind, Gate, Udp, Pass, Leg, Path, Late, Element, UsedPrimitive, Variable, Scope}
use Rattle.sg_circuit.specs.TimingsSeen.{timings_at}
use Rattle.sg_circuit.specs.PathsSeen.{paths_seen, spanned, AreIndexedPaths}
use Rattle.sg_circuit.specs.ChecksSeen.{written_seen, AreWritten}
use Rattle.sg_circuit.specs.declared.paths.Span.{Span}
use Rattle.sg_circuit.specs.declared.elements.UdpUse.{UdpUse}
use Rattle.sg_circuit.specs.declared.elements.ElementKind.{ElementKind}
use Rattle.sg_circuit.specs.declared.elements.ElementKind.TheVariants as kind
use Rattle.sg_circuit.specs.declared.elements.Element as code_element
use Rattle.sg_circuit.specs.declared.scopes.Variable as code_variable
use Rattle.sg_circuit.specs.declared.scopes.Scope as code_scope
use Rattle.sg_circuit.specs.declared.circuits.Parts.{Parts}

-- a gate's delays are the first of a table's three
abbrev pub gate_delays_seen : GateDelays → List ℕ
gate_delays_seen d = take d.count d.at

abbrev pub delays_at : List GateDelays → ℕ → List ℕ
delays_at table i = slice_index_or (map (λ d. gate_delays_seen d) table) i []

abbrev pub udp_at : List UdpUse → ℕ → UdpUse
udp_at udps i = slice_index_or udps i (record { rows = record { inputs = 0; sequential = false; rows = [] }; first = X })

abbrev pub udp_seen : UdpUse → UsedPrimitive
udp_seen u = record { primitive = u.rows; first = u.first }

abbrev pub kind_seen : Parts → ElementKind → Kind
kind_seen parts (kind.Gate gate delays) = Gate gate (delays_at parts.gate_delays.items delays)
kind_seen parts (kind.Udp udp delays) = Udp (udp_at parts.udps.items udp).rows (udp_at parts.udps.items udp).first (delays_at parts.gate_delays.items delays)
kind_seen parts (kind.Pass constant) = Pass constant
kind_seen parts (kind.Leg timing) = Leg (timings_at parts.leg_timings.items timing)
kind_seen parts (kind.Path paths style) = Path (paths_seen parts.conditions.items parts.leg_timings.items (spanned parts.paths.items paths)) style
kind_seen parts (kind.Late delay) = Late delay

abbrev pub element_seen : Parts → code_element.Element → Element
element_seen parts e = record { scope = e.scope; inputs = e.inputs.items; output = e.output; kind = kind_seen parts e.kind }

abbrev pub variable_seen : code_variable.Variable → Variable
variable_seen v = record { name = v.name; range = v.range; is_reg = v.reg; port = v.port; bits = v.bits.items }

abbrev pub scope_seen : code_scope.Scope → Scope
scope_seen s = record {
  parent = s.parent;
  name = s.name;
  module_name = s.module;
  unit = s.scale.unit.power;
  precision = s.scale.precision.power;
  is_leaf = s.leaf;
  variables = map (λ v. variable_seen v) s.variables.items;
}

abbrev pub circuit_seen : Parts → Circuit
circuit_seen parts = record {
  tick = parts.tick.power;
  nets = parts.nets.items;
  elements = map (element_seen parts) parts.elements.items;
  udps = map (λ u. udp_seen u) parts.udps.items;
  checks = parts.checks.items;
  check_timings = parts.check_timings.items;
  check_conditions = map (written_seen parts.conditions.items) parts.check_conditions.items;
  scopes = map (λ s. scope_seen s) parts.scopes.items;
  zeroed = parts.zeroed.items;
}

-- what an element's kind names stands in its table
abbrev pub IsIndexed : Parts → ElementKind → Type 0
IsIndexed parts (kind.Gate gate delays) = delays < length parts.gate_delays.items
IsIndexed parts (kind.Udp udp delays) = (udp < length parts.udps.items) × (delays < length parts.gate_delays.items)
IsIndexed parts (kind.Pass constant) = Unit {0}
IsIndexed parts (kind.Leg timing) = timing < length parts.leg_timings.items
IsIndexed parts (kind.Path paths style) = AreIndexedPaths (length parts.conditions.items) (length parts.leg_timings.items) parts.paths.items paths
IsIndexed parts (kind.Late delay) = Unit {0}

-- where an element's specify paths stand in their table, if it may have some
abbrev pub paths_of : ElementKind → Option Span
paths_of (kind.Path paths style) = Some paths
paths_of _ = None

-- of two elements the paths of the second start where those of the first have ended, or behind
abbrev pub AreApart : Option Span → Option Span → Type 0
AreApart first second = IfSome first (λ p. IfSome second (λ q. p.end ≤ q.start))

-- the tables have what is named, and no more delays of a gate than three; no two elements have a path in common
pub record AreIndexed (parts : Parts) : Type 0 where
  pub named : All (λ e. IsIndexed parts e.kind) parts.elements.items
  pub few_udps : length parts.udps.items < 2 ^ 31
  pub counts : All (λ d. d.count ≤ 3) parts.gate_delays.items
  pub written : All (AreWritten (length parts.conditions.items)) parts.check_conditions.items
  pub apart : (i j : ℕ) (d : code_element.Element) → i < j → j < length parts.elements.items → AreApart (paths_of (slice_index_or parts.elements.items i d).kind) (paths_of (slice_index_or parts.elements.items j d).kind)
