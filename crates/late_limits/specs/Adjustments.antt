-- What the signals of a circuit come to, before it is set.
use Rattle.std.specs.Prelude.{◌≡◌, ℕ, ◌<◌, ◌^◌, ◌==◌, ◌&&◌, ℤ, Bool, true, false, All, List, [], ◌∷◌, filter, flat_map, length, map}
use Rattle.std.specs.List.{enumerate_from, range_with_len}
use Rattle.sg_circuit.specs.declared.checks.CheckTiming.{CheckTiming}
use Rattle.sg_circuit.specs.Circuit.{Circuit, Element, Kind, Late}
use Rattle.neg_limits.specs.declared.pairs.Zeroed.{Zeroed}
use Rattle.late_limits.specs.Adjusted.{AreAdjusted, late_delay, zeroes}
use Rattle.late_limits.specs.declared.adjusting.Adjustment.{Adjustment}
use Rattle.late_limits.specs.declared.adjusting.LateDelay.{LateDelay}

abbrev pub is_late : Kind → Bool
is_late (Late delay) = true
is_late _ = false

-- the Lates of a scope, by their numbers, in order
abbrev pub is_late_of : ℕ → ℕ × Element → Bool
is_late_of scope e = (e.1.scope == scope) && is_late e.1.kind

abbrev pub lates_of : List Element → (scope : ℕ) → List (ℕ × Element)
lates_of elements scope = filter (is_late_of scope) (enumerate_from 0 elements)

-- each with its delay, scope after scope
abbrev pub delays_of : Circuit → (delays : ℕ → List ℕ) → List LateDelay
delays_of c delays = flat_map (λ scope. map (λ e. record { element = e.0; delay = late_delay c delays e.1 }) (lates_of c.elements scope)) (range_with_len 0 (length c.scopes))

-- these are the delays of a circuit's Lates and the limits that are taken as 0
pub record IsAdjustmentOf (c : Circuit) (a : Adjustment) : Type 0 where
  pub zeroed : ℕ → List Zeroed
  pub delays : ℕ → List ℕ
  pub are : AreAdjusted c.checks c.check_timings (length c.scopes) zeroed delays
  pub delays_are : a.delays.items ≡ delays_of c delays
  pub zeroed_are : a.zeroed.items ≡ zeroes c zeroed
  pub short : All (λ d. d.delay < 2 ^ 60) a.delays.items

-- timing checks with other limits
abbrev pub with_limits : List CheckTiming → List (List ℤ) → List CheckTiming
with_limits [] ls = []
with_limits (t ∷ ts) [] = t ∷ ts
with_limits (t ∷ ts) (l ∷ ls) = record t { limits = l } ∷ with_limits ts ls

-- what stays of an element where a circuit is annotated
pub record IsSameElement (before after : Element) : Type 0 where
  pub scope : after.scope ≡ before.scope
  pub inputs : after.inputs ≡ before.inputs
  pub kind : is_late after.kind ≡ is_late before.kind

pub data AreSameElements : List Element → List Element → Type 0 where
  none : AreSameElements [] []
  more : {e f : Element} {es fs : List Element} → IsSameElement e f → AreSameElements es fs → AreSameElements (e ∷ es) (f ∷ fs)

-- a circuit is another with these limits of its timing checks, but for delays of its elements
pub record IsLike (c : Circuit) (limits : List (List ℤ)) (made : Circuit) : Type 0 where
  pub checks : made.checks ≡ c.checks
  pub timings : made.check_timings ≡ with_limits c.check_timings limits
  pub scopes : length made.scopes ≡ length c.scopes
  pub elements : AreSameElements c.elements made.elements
