-- A circuit whose Lates have the least delays by which limits below 0 are met, and in which a limit is taken as 0 where none would do (IEEE 1364-2005, 15.8).
use Rattle.std.specs.Prelude.{◌≡◌, ℕ, ◌<◌, List, [], ◌∷◌, None, flat_map, length, map, slice_index_or}
use Rattle.std.specs.List.{range_with_len}
use Rattle.sg_circuit.specs.declared.checks.Check.{Check}
use Rattle.sg_circuit.specs.declared.checks.CheckKind.TheVariants as kind
use Rattle.sg_circuit.specs.declared.checks.CheckTiming.{CheckTiming}
use Rattle.sg_circuit.specs.declared.checks.Zero.{Zero}
use Rattle.sg_circuit.specs.Circuit.{Circuit, Element, Kind, Late}
use Rattle.sg_circuit.specs.Signals.{signals, windows}
use Rattle.neg_limits.specs.declared.pairs.Zeroed.{Zeroed}
use Rattle.neg_limits.specs.Pairs.{delay_at}
use Rattle.neg_limits.specs.Zeroing.{IsAdjusted}
use Rattle.late_limits.specs.Pairs.{signal_number, limit_of, part_of, pairs}

-- what the pairs of each scope are adjusted to: the limits that are taken as 0, and a delay for each signal
pub record AreAdjusted (checks : List Check) (timings : List CheckTiming) (scopes : ℕ) (zeroed : ℕ → List Zeroed) (delays : ℕ → List ℕ) : Type 0 where
  pub each : (scope : ℕ) → scope < scopes → IsAdjusted (length (signals checks timings scope)) (pairs checks timings scope) (zeroed scope) (delays scope)

-- a Late has the delay of the signal that it copies
abbrev pub copied : List ℕ → ℕ
copied [] = 0
copied (net ∷ nets) = net

abbrev pub late_delay : Circuit → (delays : ℕ → List ℕ) → Element → ℕ
late_delay c delays e = delay_at (delays e.scope) (signal_number (signals c.checks c.check_timings e.scope) (copied e.inputs))

abbrev pub late_kind : ℕ → Kind → Kind
late_kind delay (Late before) = Late delay
late_kind delay other = other

abbrev pub late_element : Circuit → (delays : ℕ → List ℕ) → Element → Element
late_element c delays e = record e { kind = late_kind (late_delay c delays e) e.kind }

-- a limit that is taken as 0, by its check and its place in the check's text
abbrev pub no_window : ℕ × CheckTiming
no_window = (0, record { kind = kind.Setup; refer = record { net = 0; edge = None; condition = None }; datum = None; limits = []; threshold = 0; late = None })

abbrev pub window_at : List (ℕ × CheckTiming) → Zeroed → ℕ × CheckTiming
window_at ws z = slice_index_or ws z.pair no_window

abbrev pub zero_of : List (ℕ × CheckTiming) → Zeroed → Zero
zero_of ws z = record { check = (window_at ws z).0; part = part_of (window_at ws z).1.kind z.hold; value = limit_of (window_at ws z).1 z.hold }

-- those of all scopes, scope after scope
abbrev pub zeroes : Circuit → (zeroed : ℕ → List Zeroed) → List Zero
zeroes c zeroed = flat_map (λ scope. map (zero_of (windows c.checks c.check_timings scope)) (zeroed scope)) (range_with_len 0 (length c.scopes))

abbrev pub adjusted : Circuit → (zeroed : ℕ → List Zeroed) → (delays : ℕ → List ℕ) → Circuit
adjusted c zeroed delays = record c { elements = map (late_element c delays) c.elements; zeroed = zeroes c zeroed }

-- a circuit is another, adjusted
pub record IsAdjustedFrom (c made : Circuit) : Type 0 where
  pub zeroed : ℕ → List Zeroed
  pub delays : ℕ → List ℕ
  pub are : AreAdjusted c.checks c.check_timings (length c.scopes) zeroed delays
  pub made_is : made ≡ adjusted c zeroed delays
