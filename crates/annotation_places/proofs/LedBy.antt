-- The numbers of what leads to a net are those of legs and paths.
use Rattle.std.specs.Prelude.{◌≡◌, ℕ, ◌+◌, ◌-◌, ◌<◌, ◌≤◌, All, List, [], ◌++◌, length, take, drop, slice_index_or}
use Rattle.std.specs.List.{flat_map}
use Rattle.std.proofs.Common.{ap, sym, ◌∙◌, arith, inl, inr}
use Rattle.std.proofs.lemmas.Bool.{cases_lt}
use Rattle.std.proofs.lemmas.List.{get_or_past, length-append, take-append-drop}
use Rattle.std.proofs.lemmas.Grind.{flat_map-append}
use Rattle.sg_circuit.specs.Circuit.{Circuit, Element, element_at, net_at}
use Rattle.sg_circuit.specs.Closed.{IsClosed, IfElement}
use Rattle.sg_circuit.specs.declared.nets.Driver.{Driver}
use Rattle.sg_circuit.specs.declared.nets.Driver.TheVariants as driver
use Rattle.annotation_model.specs.Spots.{spots_of}
use Rattle.annotation_spots.specs.Rows.{AreRows, AreFirsts, spots_before}
use Rattle.annotation_spots.specs.declared.spots.Spot as code_spot
use Rattle.annotation_places.specs.Places.{led_by}
use Rattle.annotation_places.proofs.Turns.{range_within}

before_within : (es : List Element) (e : ℕ) → spots_before es e ≤ length (flat_map spots_of es)
before_within es e =
    let whole : flat_map spots_of es ≡ flat_map spots_of (take e es) ++ flat_map spots_of (drop e es) = ap (flat_map spots_of) (sym (take-append-drop e es)) ∙ flat_map-append spots_of (take e es) (drop e es) in
    let sum : length (flat_map spots_of es) ≡ length (flat_map spots_of (take e es)) + length (flat_map spots_of (drop e es)) = ap length whole ∙ length-append (flat_map spots_of (take e es)) (flat_map spots_of (drop e es)) in
    omega (arith, sum)

none_within : (m : ℕ) → All (λ k. k < m) []
none_within m = λ k d l. absurd (omega (arith, l))

-- an element of the circuit, or another driver
led : (c : Circuit) (rows : List code_spot.Spot) (firsts : List ℕ) → AreRows c rows → AreFirsts c firsts
    → (d : Driver) (net : ℕ) → IfElement d (λ e. (e < length c.elements) × ((element_at c e).output ≡ net)) → All (λ k. k < length rows) (led_by firsts d)
led c rows firsts r f driver.Nobody net h = none_within (length rows)
led c rows firsts r f driver.Stimulus net h = none_within (length rows)
led c rows firsts r f driver.Notifier net h = none_within (length rows)
led c rows firsts r f (driver.Element e) net h =
    let low : slice_index_or firsts e 0 ≡ spots_before c.elements e = f.each e 0 (omega (arith, h.0)) in
    let high : slice_index_or firsts (e + 1) 0 ≡ spots_before c.elements (e + 1) = f.each (e + 1) 0 (omega (arith, h.0)) in
    range_within (slice_index_or firsts e 0) (slice_index_or firsts (e + 1) 0 - slice_index_or firsts e 0) (length rows)
    (omega (arith, low, high, before_within c.elements e, before_within c.elements (e + 1), r.count))

pub led_within : (c : Circuit) (rows : List code_spot.Spot) (firsts : List ℕ) → IsClosed c → AreRows c rows → AreFirsts c firsts → (net : ℕ) → All (λ k. k < length rows) (led_by firsts (net_at c net).driver)
led_within c rows firsts closed r f net = elim (cases_lt net (length c.nets)) [
  | inl l ↦ led c rows firsts r f (net_at c net).driver net (closed.drivers net l)
  | inr l ↦ rw (get_or_past c.nets net _ l) (none_within (length rows))
]

-- the element that drives a net has its numbers
weaker : (d : Driver) (P Q : ℕ → Type 0) → ((e : ℕ) → P e → Q e) → IfElement d P → IfElement d Q
weaker driver.Nobody P Q h p = p
weaker driver.Stimulus P Q h p = p
weaker driver.Notifier P Q h p = p
weaker (driver.Element e) P Q h p = h e p

pub has_numbers : (c : Circuit) (firsts : List ℕ) → IsClosed c → AreFirsts c firsts → (net : ℕ) → net < length c.nets → IfElement (net_at c net).driver (λ e. e + 1 < length firsts)
has_numbers c firsts closed f net l =
    weaker (net_at c net).driver (λ e. (e < length c.elements) × ((element_at c e).output ≡ net)) (λ e. e + 1 < length firsts) (λ e h. omega (arith, h.0, f.count)) (closed.drivers net l)
