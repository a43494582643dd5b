-- What is so of each element of a circuit, as the functions that look at one ask for it.
use Rattle.std.specs.Prelude.{ℕ, ◌<◌, ◌≤◌, All, Option, Some, None, if◌then◌else◌, length}
use Rattle.udp_rows.specs.Meaning.{Primitive}
use Rattle.sg_circuit.specs.Circuit.{Kind, Udp}
use Rattle.sg_circuit.specs.Closed.{HasDelays, NamesNets, TakesInputs}
use Rattle.sg_circuit.specs.Seen.{kind_seen, IsIndexed}
use Rattle.sg_circuit.specs.declared.elements.Element as code_element
use Rattle.sg_circuit.specs.declared.circuits.Parts.{Parts}

-- an element's inputs and what it names stand in a circuit of so many nets
pub record Fits (nets : ℕ) (parts : Parts) (e : code_element.Element) : Type 0 where
  pub indexed : IsIndexed parts e.kind
  pub counts : All (λ d. d.count ≤ 3) parts.gate_delays.items
  pub delays : HasDelays (kind_seen parts e.kind)
  pub inputs : All (λ n. n < nets) e.inputs.items
  pub names : NamesNets nets (kind_seen parts e.kind)
  pub takes : TakesInputs (kind_seen parts e.kind) (length e.inputs.items)

-- the primitive of a kind that has a state
abbrev pub if_sequential : Primitive → Option Primitive
if_sequential udp = if udp.sequential then Some udp else None

abbrev pub sequential : Kind → Option Primitive
sequential (Udp udp first delays) = if_sequential udp
sequential _ = None
