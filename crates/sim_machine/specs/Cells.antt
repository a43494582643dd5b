-- What an evaluation reads of an element first.
use Rattle.std.specs.Prelude.{◌≡◌, ℕ, ◌<◌, Some, None, List, [], ◌∷◌, length, slice_index_or}
use Rattle.std.specs.Bool.{OnTrue}
use Rattle.sg_logic.specs.declared.gates.GateKind.{GateKind}
use Rattle.sg_circuit.specs.declared.elements.Element as code_element
use Rattle.sg_circuit.specs.declared.elements.ElementKind.{ElementKind}
use Rattle.sg_circuit.specs.declared.elements.ElementKind.TheVariants as kind
use Rattle.sg_circuit.specs.declared.circuits.Parts.{Parts}
use Rattle.sim_machine.specs.AtOnce.{IsUndelayed}
use Rattle.sim_machine.specs.declared.cells.Brief.{Brief}
use Rattle.sim_machine.specs.declared.cells.Brief.TheVariants as brief
use Rattle.sim_machine.specs.declared.cells.Cell.{Cell}

-- a gate of this kind
abbrev pub IsGate : GateKind → ElementKind → Type 0
IsGate gate (kind.Gate g delays) = g ≡ gate
IsGate gate (kind.Udp udp delays) = ⊥
IsGate gate (kind.Pass constant) = ⊥
IsGate gate (kind.Leg timing) = ⊥
IsGate gate (kind.Path paths style) = ⊥
IsGate gate (kind.Late delay) = ⊥

-- an element that has the value of its first input
abbrev pub IsCopying : ElementKind → Type 0
IsCopying (kind.Gate gate delays) = ⊥
IsCopying (kind.Udp udp delays) = ⊥
IsCopying (kind.Pass None) = Unit {0}
IsCopying (kind.Pass (Some value)) = ⊥
IsCopying (kind.Leg timing) = Unit {0}
IsCopying (kind.Path paths style) = Unit {0}
IsCopying (kind.Late delay) = Unit {0}

-- an element of this kind and with these inputs computes by that
abbrev pub HasBrief : ElementKind → List ℕ → Brief → Type 0
HasBrief k inputs brief.Whole = Unit {0}
HasBrief k inputs (brief.Copy input) = IsCopying k × (inputs ≡ input ∷ [])
HasBrief k inputs (brief.One gate input) = IsGate gate k × (inputs ≡ input ∷ [])
HasBrief k inputs (brief.Two gate first second) = IsGate gate k × (inputs ≡ first ∷ second ∷ [])

-- the cell of an element
pub record IsCell (parts : Parts) (element : code_element.Element) (cell : Cell) : Type 0 where
  pub brief : HasBrief element.kind element.inputs.items cell.brief
  pub output : cell.output ≡ element.output
  pub at_once : OnTrue cell.at_once (IsUndelayed parts element.kind)

-- a cell for each element
pub record AreCells (parts : Parts) (elements : List code_element.Element) (cells : List Cell) : Type 0 where
  pub count : length cells ≡ length elements
  pub each : (e : ℕ) (d : code_element.Element) (c : Cell) → e < length elements → IsCell parts (slice_index_or elements e d) (slice_index_or cells e c)
