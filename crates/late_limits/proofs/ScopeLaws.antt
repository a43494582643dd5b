-- What is found of one scope.
use Rattle.std.specs.Prelude.{◌≡◌, ℕ, ℤ, ◌<◌, ◌^◌, All, List, [], ◌++◌, length, map, slice_index_or, take}
use Rattle.std.proofs.Common.{sym, ◌∙◌, ap, subst, arith, inl, inr}
use Rattle.std.proofs.lemmas.Bool.{cases_lt}
use Rattle.std.proofs.lemmas.List.{get_or-map, get_or_default, get_or_past, length-map}
use Rattle.std.proofs.lemmas.List.Elements.{All-append, All-map}
use Rattle.sg_circuit.specs.declared.checks.CheckTiming.{CheckTiming}
use Rattle.sg_circuit.specs.declared.checks.Zero.{Zero}
use Rattle.sg_circuit.specs.declared.elements.Element as code_element
use Rattle.neg_limits.specs.declared.pairs.Pair.{Pair}
use Rattle.neg_limits.specs.declared.pairs.Zeroed.{Zeroed}
use Rattle.neg_limits.specs.Pairs.{delay_at}
use Rattle.neg_limits.specs.Zeroing.{zeroed_at, IsAdjusted, IsPairOf, IsShortPair}
use Rattle.neg_limits.proofs.ZeroingLaws.{length-zero_all}
use Rattle.late_limits.specs.declared.adjusting.Adjustment.{Adjustment}
use Rattle.late_limits.specs.declared.adjusting.LateDelay.{LateDelay}
use Rattle.late_limits.specs.Pairs.{pair_of, signal_number}
use Rattle.late_limits.specs.Adjusted.{copied, zero_of}
use Rattle.late_limits.specs.Found.{delay_of, given_at, inputs_at, pairs_at, signals_at, windows_at, AreShortAt, IsScopeFound}
use Rattle.late_limits.proofs.PairLaws.{pairs-short, pairs-there}

-- the delay of a Late
pub delay-is : (elements : List code_element.Element) (e : code_element.Element) (late : ℕ) (signals delays inputs : List ℕ) (net number delay : ℕ) → late < length elements → inputs ≡ (slice_index_or elements late e).inputs.items
    → net ≡ copied inputs → number ≡ signal_number signals net → delay ≡ delay_at delays number → ◌≡◌ {A = LateDelay} (record { element = late; delay = delay }) (delay_of elements signals delays late)
delay-is elements e late signals delays inputs net number delay l own first numbered is =
    let read : (slice_index_or elements late e).inputs.items ≡ inputs_at elements late = sym (get_or-map (λ (x : code_element.Element). x.inputs.items) elements late e [] l) in
    let value : delay ≡ delay_at delays (signal_number signals (copied (inputs_at elements late))) = is ∙ ap (delay_at delays) (numbered ∙ ap (signal_number signals) (first ∙ ap copied (own ∙ read))) in
    ap {B = LateDelay} (λ d. record { element = late; delay = d }) value

-- the pairs that are solved
pub pairs-are : (timings : List CheckTiming) (limits : List (List ℤ)) (checks signals : List ℕ) (pairs seen : List Pair) → signals ≡ signals_at timings checks → pairs ≡ map (λ w. pair_of signals w.1) (windows_at timings limits checks) → seen ≡ pairs
    → seen ≡ pairs_at timings limits checks
pairs-are timings limits checks signals pairs seen e f g = g ∙ (f ∙ ap (λ ns. map (λ w. pair_of ns w.1) (windows_at timings limits checks)) e)

pub solved-there : (timings : List CheckTiming) (limits : List (List ℤ)) (checks signals : List ℕ) (count : ℕ) (seen : List Pair) → signals ≡ signals_at timings checks → count ≡ length signals → seen ≡ pairs_at timings limits checks → All (IsPairOf count) seen
solved-there timings limits checks signals count seen e n f =
    subst (λ m. All (IsPairOf m) seen) (sym (n ∙ ap length e)) (subst (λ ps. All (IsPairOf (length (signals_at timings checks))) ps) (sym f) (pairs-there timings limits checks))

pub solved-short : (timings : List CheckTiming) (limits : List (List ℤ)) (checks signals : List ℕ) (count : ℕ) (seen : List Pair) → signals ≡ signals_at timings checks → count ≡ length signals → seen ≡ pairs_at timings limits checks
    → AreShortAt timings limits checks → All (IsShortPair count) seen
solved-short timings limits checks signals count seen e n f h =
    subst (λ m. All (IsShortPair m) seen) (sym (n ∙ ap length e)) (subst (λ ps. All (IsShortPair (length (signals_at timings checks))) ps) (sym f) (pairs-short timings limits checks h))

pub solved : (timings : List CheckTiming) (limits : List (List ℤ)) (checks signals : List ℕ) (count : ℕ) (seen : List Pair) (zeroed : List Zeroed) (delays : List ℕ) → signals ≡ signals_at timings checks → count ≡ length signals
    → seen ≡ pairs_at timings limits checks → IsAdjusted count seen zeroed delays → IsAdjusted (length (signals_at timings checks)) (pairs_at timings limits checks) zeroed delays
solved timings limits checks signals count seen zeroed delays e n f h = subst (λ m. IsAdjusted m (pairs_at timings limits checks) zeroed delays) (n ∙ ap length e) (subst (λ ps. IsAdjusted count ps zeroed delays) f h)

-- each limit that is taken as 0 is one of the scope's
pub zeroed-there : (timings : List CheckTiming) (limits : List (List ℤ)) (checks : List ℕ) (zeroed seen : List Zeroed) (delays : List ℕ) → IsAdjusted (length (signals_at timings checks)) (pairs_at timings limits checks) zeroed delays → seen ≡ zeroed
    → All (λ (z : Zeroed). z.pair < length checks) seen
zeroed-there timings limits checks zeroed seen delays h e = subst (λ zs. All (λ (z : Zeroed). z.pair < length checks) zs) (sym e) (λ i d l. there i d l)
  where
    many : length (pairs_at timings limits checks) ≡ length checks
    many = length-map (windows_at timings limits checks) (λ w. pair_of (signals_at timings checks) w.1) ∙ length-map checks (λ k. (k, given_at timings limits k))

    there : (i : ℕ) (d : Zeroed) → i < length zeroed → (slice_index_or zeroed i d).pair < length checks
    there i d l =
        let own = (h.in_order i l).is.there in
        let below : (zeroed_at zeroed i).pair < length checks = subst (λ n. (zeroed_at zeroed i).pair < n) (length-zero_all (pairs_at timings limits checks) (take i zeroed) ∙ many) own in
        subst (λ (z : Zeroed). z.pair < length checks) (get_or_default zeroed i _ d l) below

-- all of it
delays-short : (elements : List code_element.Element) (signals delays lates : List ℕ) → All (λ d. d < 2 ^ 60) delays → All (λ (d : LateDelay). d.delay < 2 ^ 60) (map (delay_of elements signals delays) lates)
delays-short elements signals delays lates h = All-map (λ (d : LateDelay). d.delay < 2 ^ 60) (delay_of elements signals delays) lates (λ i d l. at (signal_number signals (copied (inputs_at elements (slice_index_or lates i d)))))
  where
    at : (n : ℕ) → delay_at delays n < 2 ^ 60
    at n = elim (cases_lt n (length delays)) [ inl here ↦ h n 0 here | inr past ↦ subst (λ d. d < 2 ^ 60) (sym (get_or_past delays n 0 past)) (omega arith) ]

pub scope-found : (timings : List CheckTiming) (limits : List (List ℤ)) (elements : List code_element.Element) (checks lates signals delays : List ℕ) (zeroed : List Zeroed) (before after : Adjustment)
    → signals ≡ signals_at timings checks → IsAdjusted (length (signals_at timings checks)) (pairs_at timings limits checks) zeroed delays → All (λ d. d < 2 ^ 60) delays
    → after.delays.items ≡ before.delays.items ++ map (delay_of elements signals delays) lates → after.zeroed.items ≡ before.zeroed.items ++ map (zero_of (windows_at timings limits checks)) zeroed
    → IsScopeFound timings limits elements checks lates before after
scope-found timings limits elements checks lates signals delays zeroed before after e h short ds zs = record {
  zeroed = zeroed;
  delays = delays;
  adjusted = h;
  delays_are = ds ∙ ap (λ ns. before.delays.items ++ map (delay_of elements ns delays) lates) e;
  zeroed_are = zs;
  short = λ was. subst (λ xs. All (λ (d : LateDelay). d.delay < 2 ^ 60) xs) (sym ds)
      (All-append (λ (d : LateDelay). d.delay < 2 ^ 60) before.delays.items (map (delay_of elements signals delays) lates) was (delays-short elements signals delays lates short));
}

-- the same of slices
pub read-adjusted : (timings seen : List CheckTiming) (limits : List (List ℤ)) (checks : List ℕ) (zeroed : List Zeroed) (delays : List ℕ) → seen ≡ timings → IsAdjusted (length (signals_at seen checks)) (pairs_at seen limits checks) zeroed delays
    → IsAdjusted (length (signals_at timings checks)) (pairs_at timings limits checks) zeroed delays
read-adjusted timings seen limits checks zeroed delays e = subst (λ ts. IsAdjusted (length (signals_at ts checks)) (pairs_at ts limits checks) zeroed delays) e

pub read-delays : (elements seen : List code_element.Element) (signals delays given lates : List ℕ) (before after : List LateDelay) → seen ≡ elements → given ≡ delays → after ≡ before ++ map (delay_of seen signals given) lates
    → after ≡ before ++ map (delay_of elements signals delays) lates
read-delays elements seen signals delays given lates before after e f h = h ∙ (ap (λ es. before ++ map (delay_of es signals given) lates) e ∙ ap (λ ds. before ++ map (delay_of elements signals ds) lates) f)

pub read-zeroes : (timings seen : List CheckTiming) (limits : List (List ℤ)) (checks : List ℕ) (zeroed given : List Zeroed) (before after : List Zero) → seen ≡ timings → given ≡ zeroed → after ≡ before ++ map (zero_of (windows_at seen limits checks)) given
    → after ≡ before ++ map (zero_of (windows_at timings limits checks)) zeroed
read-zeroes timings seen limits checks zeroed given before after e f h = h ∙ (ap (λ ts. before ++ map (zero_of (windows_at ts limits checks)) given) e ∙ ap (λ zs. before ++ map (zero_of (windows_at timings limits checks)) zs) f)
