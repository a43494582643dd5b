-- What the functions of this crate find, said of tables of numbers: the timing checks of each scope that take limits below 0, and its Lates.
use Rattle.std.specs.Prelude.{◌≡◌, ℕ, ◌<◌, ◌^◌, ◌==◌, ◌&&◌, ℤ, Bool, true, false, All, List, [], ◌++◌, filter, flat_map, length, map, slice_index_or}
use Rattle.std.specs.List.{enumerate_from, range_with_len}
use Rattle.sg_circuit.specs.declared.checks.Check.{Check}
use Rattle.sg_circuit.specs.declared.checks.CheckTiming.{CheckTiming}
use Rattle.sg_circuit.specs.declared.elements.Element as code_element
use Rattle.sg_circuit.specs.declared.elements.ElementKind.{ElementKind}
use Rattle.sg_circuit.specs.declared.elements.ElementKind.TheVariants.{Late}
use Rattle.sg_circuit.specs.FanOut.{readers_at}
use Rattle.sg_circuit.specs.Pins.{firsts_after}
use Rattle.sg_circuit.specs.Signals.{signal_nets, windows, IsShort}
use Rattle.neg_limits.specs.declared.pairs.Pair.{Pair}
use Rattle.neg_limits.specs.declared.pairs.Zeroed.{Zeroed}
use Rattle.neg_limits.specs.Pairs.{delay_at}
use Rattle.neg_limits.specs.Zeroing.{IsAdjusted}
use Rattle.late_limits.specs.declared.adjusting.Adjustment.{Adjustment}
use Rattle.late_limits.specs.declared.adjusting.LateDelay.{LateDelay}
use Rattle.late_limits.specs.Pairs.{pair_of, signal_number}
use Rattle.late_limits.specs.Adjusted.{copied, no_window, zero_of}

-- the checks of a scope, by their numbers alone
abbrev pub window_numbers : List Check → List CheckTiming → (scope : ℕ) → List ℕ
window_numbers checks timings scope = map (λ w. w.0) (windows checks timings scope)

pub record AreWindows (checks : List Check) (timings : List CheckTiming) (table : List (List ℕ)) : Type 0 where
  pub each : (scope : ℕ) → scope < length table → readers_at table scope ≡ window_numbers checks timings scope

-- the Lates of a scope, by their numbers alone
abbrev pub is_late_kind : ElementKind → Bool
is_late_kind (Late delay) = true
is_late_kind _ = false

abbrev pub is_code_late : ℕ → ℕ × code_element.Element → Bool
is_code_late scope e = (e.1.scope == scope) && is_late_kind e.1.kind

abbrev pub late_numbers : List code_element.Element → (scope : ℕ) → List ℕ
late_numbers elements scope = map (λ e. e.0) (filter (is_code_late scope) (enumerate_from 0 elements))

pub record AreLates (elements : List code_element.Element) (table : List (List ℕ)) : Type 0 where
  pub each : (scope : ℕ) → scope < length table → readers_at table scope ≡ late_numbers elements scope

-- a check by its number, and with a limit in place of its own
abbrev pub timing_at : List CheckTiming → ℕ → CheckTiming
timing_at timings check = slice_index_or timings check no_window.1

abbrev pub given_at : List CheckTiming → List (List ℤ) → ℕ → CheckTiming
given_at timings limits check = record (timing_at timings check) { limits = slice_index_or limits check [] }

-- the signals of listed checks
abbrev pub signals_at : List CheckTiming → (checks : List ℕ) → List ℕ
signals_at timings checks = firsts_after [] (flat_map (λ k. signal_nets (timing_at timings k)) checks)

-- their pairs
abbrev pub windows_at : List CheckTiming → List (List ℤ) → (checks : List ℕ) → List (ℕ × CheckTiming)
windows_at timings limits checks = map (λ k. (k, given_at timings limits k)) checks

abbrev pub pairs_at : List CheckTiming → List (List ℤ) → (checks : List ℕ) → List Pair
pairs_at timings limits checks = map (λ w. pair_of (signals_at timings checks) w.1) (windows_at timings limits checks)

-- their limits are short
abbrev pub AreShortAt : List CheckTiming → List (List ℤ) → (checks : List ℕ) → Type 0
AreShortAt timings limits checks = All (λ k. IsShort (length (signals_at timings checks)) (given_at timings limits k)) checks

-- the delays of listed Lates, by those of signals
abbrev pub inputs_at : List code_element.Element → ℕ → List ℕ
inputs_at elements e = slice_index_or (map (λ x. x.inputs.items) elements) e []

abbrev pub delay_of : List code_element.Element → (signals delays : List ℕ) → ℕ → LateDelay
delay_of elements signals delays e = record { element = e; delay = delay_at delays (signal_number signals (copied (inputs_at elements e))) }

-- what is found of one scope, behind what was found before
pub record IsScopeFound (timings : List CheckTiming) (limits : List (List ℤ)) (elements : List code_element.Element) (checks lates : List ℕ) (before after : Adjustment) : Type 0 where
  pub zeroed : List Zeroed
  pub delays : List ℕ
  pub adjusted : IsAdjusted (length (signals_at timings checks)) (pairs_at timings limits checks) zeroed delays
  pub delays_are : after.delays.items ≡ before.delays.items ++ map (delay_of elements (signals_at timings checks) delays) lates
  pub zeroed_are : after.zeroed.items ≡ before.zeroed.items ++ map (zero_of (windows_at timings limits checks)) zeroed
  pub short : All (λ d. d.delay < 2 ^ 60) before.delays.items → All (λ d. d.delay < 2 ^ 60) after.delays.items

-- what is found of so many scopes
pub record AreFound (timings : List CheckTiming) (limits : List (List ℤ)) (elements : List code_element.Element) (checks lates : List (List ℕ)) (scopes : ℕ) (found : Adjustment) : Type 0 where
  pub zeroed : ℕ → List Zeroed
  pub delays : ℕ → List ℕ
  pub each : (scope : ℕ) → scope < scopes → IsAdjusted (length (signals_at timings (readers_at checks scope))) (pairs_at timings limits (readers_at checks scope)) (zeroed scope) (delays scope)
  pub delays_are : found.delays.items ≡ flat_map (λ scope. map (delay_of elements (signals_at timings (readers_at checks scope)) (delays scope)) (readers_at lates scope)) (range_with_len 0 scopes)
  pub zeroed_are : found.zeroed.items ≡ flat_map (λ scope. map (zero_of (windows_at timings limits (readers_at checks scope))) (zeroed scope)) (range_with_len 0 scopes)
  pub short : All (λ d. d.delay < 2 ^ 60) found.delays.items

-- the numbers in a table are below this one
pub record AreAmong (count : ℕ) (table : List (List ℕ)) : Type 0 where
  pub each : (key : ℕ) → key < length table → All (λ n. n < count) (readers_at table key)

-- the limits of each scope's checks are short
pub record AreAllShort (timings : List CheckTiming) (limits : List (List ℤ)) (table : List (List ℕ)) : Type 0 where
  pub each : (scope : ℕ) → scope < length table → AreShortAt timings limits (readers_at table scope)
