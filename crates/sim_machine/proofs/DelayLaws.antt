-- The delays of gates, read from a table.
use Rattle.std.specs.Prelude.{◌≡◌, ℕ, ◌<◌, ◌≤◌, All, List, [], ◌∷◌, length, slice_index_or}
use Rattle.std.proofs.Common.{sym, ◌∙◌, ap, subst, arith}
use Rattle.std.proofs.lemmas.List.{get_or-map}
use Rattle.sg_logic.specs.declared.values.Value.{Value}
use Rattle.sg_logic.specs.declared.values.Value.TheVariants.{Zero, One, X, Z}
use Rattle.sg_delay.specs.declared.gates.GateDelays.{GateDelays}
use Rattle.sg_delay.specs.GateDelay.{of_two, of_three, delay_to}
use Rattle.sg_circuit.specs.Seen.{gate_delays_seen, delays_at}

two_fit : (rise fall top : ℕ) (to : Value) → rise < top → fall < top → of_two rise fall to < top
two_fit rise fall top One r f = r
two_fit rise fall top Zero r f = f
two_fit rise fall top X r f = omega arith
two_fit rise fall top Z r f = omega arith

three_fit : (rise fall off top : ℕ) (to : Value) → rise < top → fall < top → off < top → of_three rise fall off to < top
three_fit rise fall off top One r f o = r
three_fit rise fall off top Zero r f o = f
three_fit rise fall off top X r f o = omega arith
three_fit rise fall off top Z r f o = o

pub delay_fits : (delays : List ℕ) (to : Value) (top : ℕ) → 0 < top → All (λ d. d < top) delays → delay_to delays to < top
delay_fits [] to top l h = l
delay_fits (delay ∷ []) to top l h = h 0 0 (omega arith)
delay_fits (rise ∷ fall ∷ []) to top l h = two_fit rise fall top to (h 0 0 (omega arith)) (h 1 0 (omega arith))
delay_fits (rise ∷ fall ∷ off ∷ rest) to top l h = three_fit rise fall off top to (h 0 0 (omega arith)) (h 1 0 (omega arith)) (h 2 0 (omega arith))

-- what stands at a place of the table
pub delays-at : (table : List GateDelays) (place : ℕ) (d : GateDelays) → place < length table → d ≡ slice_index_or table place d → gate_delays_seen d ≡ delays_at table place
delays-at table place d l is = ap (λ x. gate_delays_seen x) is ∙ sym (get_or-map (λ (x : GateDelays). gate_delays_seen x) table place d [] l)

pub count_at : (table : List GateDelays) (place : ℕ) (d : GateDelays) → place < length table → d ≡ slice_index_or table place d → All (λ d. d.count ≤ 3) table → d.count ≤ 3
count_at table place d l is h = subst (λ (x : GateDelays). x.count ≤ 3) (sym is) (h place d l)
