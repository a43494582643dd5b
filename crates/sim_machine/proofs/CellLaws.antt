-- The cells of elements.
use Rattle.std.specs.Prelude.{◌≡◌, ◌⊎◌, ℕ, ◌+◌, ◌<◌, ◌≤◌, All, List, [], ◌∷◌, ◌++◌, Some, None, length, take, slice_index_or}
use Rattle.std.specs.Bool.{OnTrue}
use Rattle.std.proofs.lemmas.List.{get_or_default, length_push, length-take-le, get_or_append_left, get_or_push, take_more, take_all}
use Rattle.std.proofs.Common.{sym, ◌∙◌, ap, subst, arith, inl, inr}
use Rattle.sg_logic.specs.declared.gates.GateKind.{GateKind}
use Rattle.sg_logic.specs.declared.values.Value.{Value}
use Rattle.sg_logic.specs.declared.values.Value.TheVariants.{X}
use Rattle.sg_logic.specs.Gate.{gate_value, TakesInputs as GateTakes}
use Rattle.sg_model.specs.Values.{value_at}
use Rattle.sg_circuit.specs.Closed.{TakesInputs}
use Rattle.sg_circuit.specs.Seen.{kind_seen}
use Rattle.sg_circuit.specs.declared.elements.Element as code_element
use Rattle.sg_circuit.specs.declared.elements.ElementKind.{ElementKind}
use Rattle.sg_circuit.specs.declared.elements.ElementKind.TheVariants as kind
use Rattle.sg_circuit.specs.declared.circuits.Parts.{Parts}
use Rattle.sim_machine.specs.AtOnce.{IsAtOnce, IsUndelayed}
use Rattle.sim_machine.specs.Cells.{AreCells, IsCell, IsCopying, IsGate}
use Rattle.sim_machine.specs.Simulated.{value_of_kind, values_at}
use Rattle.sim_machine.specs.declared.cells.Cell.{Cell}
use Rattle.sim_machine.proofs.AtOnceLaws.{undelayed_at_once, when_true_then}

pub none_made : (parts : Parts) (elements : List code_element.Element) → AreCells parts (take 0 elements) []
none_made parts elements = record { count = sym (length-take-le 0 elements (omega arith)); each = λ e d c l. (let m : length (take 0 elements) ≡ 0 = length-take-le 0 elements (omega arith) in absurd (omega (arith, l, m))) }

-- a cell more
pub one_more : (parts : Parts) (elements : List code_element.Element) (i : ℕ) (blank : code_element.Element) (cells new : List Cell) (made : Cell) → i < length elements → AreCells parts (take i elements) cells → IsCell parts (slice_index_or elements i blank) made
    → new ≡ cells ++ made ∷ [] → AreCells parts (take (i + 1) elements) new
one_more parts elements i blank cells new made l are is pushed =
    let item = slice_index_or elements i blank in
    let whole : take (i + 1) elements ≡ take i elements ++ item ∷ [] = take_more elements i blank l in
    let front : length (take i elements) ≡ i = length-take-le i elements (omega arith) in
    let many : length cells ≡ i = are.count ∙ front in
    subst (λ xs. AreCells parts xs new) (sym whole) (subst (λ cs. AreCells parts (take i elements ++ item ∷ []) cs) (sym pushed) (record {
      count = length_push cells made ∙ (ap (λ n. n + 1) are.count ∙ sym (length_push (take i elements) item));
      each = λ e d c m. elim (sides e i (let k : length (take i elements ++ item ∷ []) ≡ length (take i elements) + 1 = length_push (take i elements) item in omega (arith, m, k, front))) [
        | inl before ↦ subst (λ x. IsCell parts (slice_index_or (take i elements ++ item ∷ []) e d) x) (sym (get_or_append_left cells (made ∷ []) c e (omega (arith, before, many))))
            (subst (λ (x : code_element.Element). IsCell parts x (slice_index_or cells e c)) (sym (get_or_append_left (take i elements) (item ∷ []) d e (omega (arith, before, front))))
            (are.each e d c (omega (arith, before, front))))
        | inr here ↦ subst (λ x. IsCell parts (slice_index_or (take i elements ++ item ∷ []) e d) x) (sym (get_or_push cells made c e (many ∙ sym here)))
            (subst (λ (x : code_element.Element). IsCell parts x made) (sym (get_or_push (take i elements) item d e (front ∙ sym here))) is)
      ];
    }))
  where
    sides : (a n : ℕ) → a < n + 1 → (a < n) ⊎ (a ≡ n)
    sides a n h = grind arith

pub all_made : (parts : Parts) (elements : List code_element.Element) (i : ℕ) (cells : List Cell) → length elements ≤ i → AreCells parts (take i elements) cells → AreCells parts elements cells
all_made parts elements i cells l are = subst (λ xs. AreCells parts xs cells) (take_all i elements l) are

-- the cell of an element as the code reads it
pub read_cell : (parts : Parts) (elements : List code_element.Element) (cells : List Cell) (e : ℕ) (item d : code_element.Element) (cell c : Cell) → AreCells parts elements cells → e < length elements → item ≡ slice_index_or elements e d → cell ≡ slice_index_or cells e c → IsCell parts item cell
read_cell parts elements cells e item d cell c are l read got = subst (λ x. IsCell parts item x) (sym got) (subst (λ (x : code_element.Element). IsCell parts x (slice_index_or cells e c)) (sym read) (are.each e d c l))

pub placed_so : (parts : Parts) (item : code_element.Element) (cell : Cell) → IsCell parts item cell → OnTrue cell.at_once (IsAtOnce (kind_seen parts item.kind))
placed_so parts item cell is = when_true_then cell.at_once (IsUndelayed parts item.kind) (IsAtOnce (kind_seen parts item.kind)) (undelayed_at_once parts item.kind) is.at_once

-- the value of an element that has that of a net
pub copied_value : (parts : Parts) (k : ElementKind) (inputs : List ℕ) (input : ℕ) (before after : List Value) (state v : Value) → IsCopying k → inputs ≡ input ∷ [] → v ≡ value_at after input → v ≡ value_of_kind (kind_seen parts k) (values_at inputs before) (values_at inputs after) state
copied_value parts (kind.Gate gate delays) inputs input before after state v is e h = absurd is
copied_value parts (kind.Udp udp delays) inputs input before after state v is e h = absurd is
copied_value parts (kind.Pass None) inputs input before after state v is e h = h ∙ ap (λ ns. value_at (values_at ns after) 0) (sym e)
copied_value parts (kind.Pass (Some value)) inputs input before after state v is e h = absurd is
copied_value parts (kind.Leg timing) inputs input before after state v is e h = h ∙ ap (λ ns. value_at (values_at ns after) 0) (sym e)
copied_value parts (kind.Path paths style) inputs input before after state v is e h = h ∙ ap (λ ns. value_at (values_at ns after) 0) (sym e)
copied_value parts (kind.Late delay) inputs input before after state v is e h = h ∙ ap (λ ns. value_at (values_at ns after) 0) (sym e)

-- the value of a gate
pub gate_computed : (parts : Parts) (k : ElementKind) (gate : GateKind) (inputs : List ℕ) (before after : List Value) (state v : Value) → IsGate gate k → v ≡ gate_value gate (values_at inputs after) → v ≡ value_of_kind (kind_seen parts k) (values_at inputs before) (values_at inputs after) state
gate_computed parts (kind.Gate g delays) gate inputs before after state v is h = h ∙ ap (λ x. gate_value x (values_at inputs after)) (sym is)
gate_computed parts (kind.Udp udp delays) gate inputs before after state v is h = absurd is
gate_computed parts (kind.Pass constant) gate inputs before after state v is h = absurd is
gate_computed parts (kind.Leg timing) gate inputs before after state v is h = absurd is
gate_computed parts (kind.Path paths style) gate inputs before after state v is h = absurd is
gate_computed parts (kind.Late delay) gate inputs before after state v is h = absurd is

pub gate_of_one : (parts : Parts) (k : ElementKind) (gate : GateKind) (inputs : List ℕ) (input : ℕ) (before after : List Value) (state v d : Value) → All (λ n. n < length after) inputs → IsGate gate k → inputs ≡ input ∷ [] → v ≡ gate_value gate (slice_index_or after input d ∷ [])
    → v ≡ value_of_kind (kind_seen parts k) (values_at inputs before) (values_at inputs after) state
gate_of_one parts k gate inputs input before after state v d within is e h =
    let one : All (λ n. n < length after) (input ∷ []) = subst (λ ns. All (λ n. n < length after) ns) e within in
    gate_computed parts k gate inputs before after state v is (h ∙ ap (λ x. gate_value gate (x ∷ [])) (get_or_default after input d X (one 0 0 (omega arith))) ∙ ap (λ ns. gate_value gate (values_at ns after)) (sym e))

pub gate_of_two : (parts : Parts) (k : ElementKind) (gate : GateKind) (inputs : List ℕ) (first second : ℕ) (before after : List Value) (state v d d' : Value) → All (λ n. n < length after) inputs → IsGate gate k → inputs ≡ first ∷ second ∷ []
    → v ≡ gate_value gate (slice_index_or after first d ∷ slice_index_or after second d' ∷ []) → v ≡ value_of_kind (kind_seen parts k) (values_at inputs before) (values_at inputs after) state
gate_of_two parts k gate inputs first second before after state v d d' within is e h =
    let both : All (λ n. n < length after) (first ∷ second ∷ []) = subst (λ ns. All (λ n. n < length after) ns) e within in
    gate_computed parts k gate inputs before after state v is
    (h
    ∙ ap (λ x. gate_value gate (x ∷ slice_index_or after second d' ∷ [])) (get_or_default after first d X (both 0 0 (omega arith)))
    ∙ ap (λ x. gate_value gate (value_at after first ∷ x ∷ [])) (get_or_default after second d' X (both 1 0 (omega arith)))
    ∙ ap (λ ns. gate_value gate (values_at ns after)) (sym e))

-- it takes so many inputs
pub gate_takes : (parts : Parts) (k : ElementKind) (gate : GateKind) (n : ℕ) → IsGate gate k → TakesInputs (kind_seen parts k) n → GateTakes gate n
gate_takes parts (kind.Gate g delays) gate n is h = subst (λ x. GateTakes x n) is h
gate_takes parts (kind.Udp udp delays) gate n is h = absurd is
gate_takes parts (kind.Pass constant) gate n is h = absurd is
gate_takes parts (kind.Leg timing) gate n is h = absurd is
gate_takes parts (kind.Path paths style) gate n is h = absurd is
gate_takes parts (kind.Late delay) gate n is h = absurd is
