-- What the code of an element stands for.
use Rattle.std.specs.Prelude.{◌≡◌, ℕ, ◌<◌, All, List, length, slice_index_or}
use Rattle.sg_logic.specs.declared.values.Value.{Value}
use Rattle.sg_circuit.specs.Circuit.{Circuit, element_at}
use Rattle.sg_circuit.specs.Closed.{TakesInputs, HasDelays, NamesNets}
use Rattle.sg_circuit.specs.Seen.{kind_seen, element_seen, IsIndexed}
use Rattle.sg_circuit.specs.declared.elements.Element as code_element
use Rattle.sg_circuit.specs.declared.elements.UdpUse.{UdpUse}
use Rattle.sg_circuit.specs.declared.circuits.Parts.{Parts}
use Rattle.udp_table.specs.declared.table.Table.{Table}
use Rattle.time_checks.specs.declared.latest.Latest.{Latest}
use Rattle.udp_table.specs.Cells.{IsTableOf, IsWhole}

-- the element of a number, among the parts of a circuit
pub record IsElement (circuit : Circuit) (parts : Parts) (number : ℕ) (item : code_element.Element) : Type 0 where
  pub known : number < length circuit.elements
  pub at : element_at circuit number ≡ element_seen parts item
  pub inputs : All (λ n. n < length circuit.nets) item.inputs.items
  pub output : item.output < length circuit.nets
  pub takes : TakesInputs (kind_seen parts item.kind) (length item.inputs.items)
  pub delays : HasDelays (kind_seen parts item.kind)
  pub indexed : IsIndexed parts item.kind
  pub paths : NamesNets (length circuit.nets) (kind_seen parts item.kind)

-- a table for each primitive
pub record AreTables (udps : List UdpUse) (tables : List Table) : Type 0 where
  pub count : length tables ≡ length udps
  pub each : (i : ℕ) (d : Table) (u : UdpUse) → i < length udps → IsWhole (slice_index_or tables i d) × IsTableOf (slice_index_or udps i u).rows (slice_index_or tables i d)

-- the elements of a circuit, and the value that each computed last; what was known of the events of its timing checks before its run
pub record ElementsSeen : Type 0 where
  pub circuit : Circuit
  pub earlier : List Latest
  pub states : List Value
