-- The checks of a scope, by their numbers.
use Rattle.std.specs.Prelude.{◌≡◌, ℕ, suc, ℤ, ◌+◌, ◌<◌, ◌≤◌, Bool, true, false, All, List, [], ◌∷◌, ◌++◌, cond, filter, flat_map, length, map, slice_index_or, zip, refl}
use Rattle.std.specs.List.{enumerate_from}
use Rattle.std.proofs.Common.{sym, ◌∙◌, ap, subst, arith}
use Rattle.std.proofs.lemmas.List.{get_or_default, length-map}
use Rattle.std.proofs.lemmas.List.Elements.{All-cons, All-nil}
use Rattle.sg_circuit.specs.declared.checks.Check.{Check}
use Rattle.sg_circuit.specs.declared.checks.CheckTiming.{CheckTiming}
use Rattle.sg_circuit.specs.Pins.{firsts_after}
use Rattle.sg_circuit.specs.Signals.{is_window, signal_nets, signals, windows, AreShort, IsShort}
use Rattle.sg_circuit.proofs.SeenLaws.{all-unmapped, map-mapped}
use Rattle.late_limits.specs.Adjusted.{no_window}
use Rattle.late_limits.specs.Adjustments.{with_limits}
use Rattle.late_limits.specs.Pairs.{pair_of, pairs}
use Rattle.late_limits.specs.Found.{given_at, pairs_at, signals_at, timing_at, window_numbers, windows_at, AreShortAt, AreWindows, AreAllShort, AreAmong}
use Rattle.late_limits.proofs.NumberLaws.{firsts-is}

-- the numbers of items that pass a test are below how many there are
pub numbers-below : {A : Type 0} (test : ℕ × A → Bool) (n top : ℕ) (xs : List A) → n + length xs ≤ top → All (λ k. k < top) (map (λ e. e.0) (filter test (enumerate_from n xs)))
numbers-below test n top [] l = All-nil (λ k. k < top)
numbers-below {A} test n top (x ∷ xs) l = by (test (n, x)) (numbers-below test (n + 1) top xs (omega arith))
  where
    rest : List (ℕ × A)
    rest = filter test (enumerate_from (n + 1) xs)

    by : (b : Bool) → All (λ k. k < top) (map (λ e. e.0) rest) → All (λ k. k < top) (map (λ e. e.0) (cond b ((n, x) ∷ rest) rest))
    by true h = All-cons (λ k. k < top) n (map (λ e. e.0) rest) (omega arith) h
    by false h = h

-- the checks of a scope with limits in place of their own
windows-from : (scope n : ℕ) (cs : List Check) (ts : List CheckTiming) (ls : List (List ℤ)) (g : ℕ → CheckTiming) → length ls ≡ length ts → ((i : ℕ) (d : CheckTiming) → i < length ts → g (n + i) ≡ record (slice_index_or ts i d) { limits = slice_index_or ls i [] })
    → map {B = ℕ × CheckTiming} (λ w. (w.0, w.1.1)) (filter (is_window scope) (enumerate_from n (zip cs (with_limits ts ls)))) ≡ map {B = ℕ × CheckTiming} (λ k. (k, g k)) (map (λ w. w.0) (map {B = ℕ × CheckTiming} (λ w. (w.0, w.1.1)) (filter (is_window scope) (enumerate_from n (zip cs ts)))))
windows-from scope n [] ts ls g e h = refl
windows-from scope n (c ∷ cs) [] ls g e h = refl
windows-from scope n (c ∷ cs) (t ∷ ts) [] g e h = absurd (omega arith)
windows-from scope n (c ∷ cs) (t ∷ ts) (l ∷ ls) g e h =
    by (is_window scope (n, (c, t))) (windows-from scope (n + 1) cs ts ls g (omega arith) (λ i d m. (let k : n + 1 + i ≡ n + suc i = omega arith in ap g k ∙ h (suc i) d (omega arith))))
  where
    first : record t { limits = l } ≡ g n
    first = let k : n ≡ n + 0 = omega arith in sym (ap g k ∙ h 0 t (omega arith))

    given : List (ℕ × (Check × CheckTiming))
    given = filter (is_window scope) (enumerate_from (n + 1) (zip cs (with_limits ts ls)))

    own : List (ℕ × (Check × CheckTiming))
    own = filter (is_window scope) (enumerate_from (n + 1) (zip cs ts))

    by : (b : Bool) → map {B = ℕ × CheckTiming} (λ w. (w.0, w.1.1)) given ≡ map {B = ℕ × CheckTiming} (λ k. (k, g k)) (map (λ w. w.0) (map {B = ℕ × CheckTiming} (λ w. (w.0, w.1.1)) own))
        → map {B = ℕ × CheckTiming} (λ w. (w.0, w.1.1)) (cond b ((n, (c, record t { limits = l })) ∷ given) given) ≡ map {B = ℕ × CheckTiming} (λ k. (k, g k)) (map (λ w. w.0) (map {B = ℕ × CheckTiming} (λ w. (w.0, w.1.1)) (cond b ((n, (c, t)) ∷ own) own)))
    by true rest = ap {B = List (ℕ × CheckTiming)} (λ (x : CheckTiming). (n, x) ∷ map {B = ℕ × CheckTiming} (λ w. (w.0, w.1.1)) given) first ∙ ap (λ ws. (n, g n) ∷ ws) rest
    by false rest = rest

pub windows-given : (checks : List Check) (timings : List CheckTiming) (limits : List (List ℤ)) (scope : ℕ) → length limits ≡ length timings
    → windows checks (with_limits timings limits) scope ≡ windows_at timings limits (window_numbers checks timings scope)
windows-given checks timings limits scope e =
    windows-from scope 0 checks timings limits (given_at timings limits) e (λ i d l. (let k : 0 + i ≡ i = omega arith in
    ap (given_at timings limits) k ∙ ap (λ (t : CheckTiming). record t { limits = slice_index_or limits i [] }) (get_or_default timings i no_window.1 d l)))

nets-of : (timings : List CheckTiming) (limits : List (List ℤ)) (ks : List ℕ) → flat_map (λ (w : ℕ × CheckTiming). signal_nets w.1) (windows_at timings limits ks) ≡ flat_map (λ k. signal_nets (timing_at timings k)) ks
nets-of timings limits [] = refl
nets-of timings limits (k ∷ ks) = ap (λ ns. signal_nets (timing_at timings k) ++ ns) (nets-of timings limits ks)

pub signals-given : (checks : List Check) (timings : List CheckTiming) (limits : List (List ℤ)) (scope : ℕ) → length limits ≡ length timings → signals checks (with_limits timings limits) scope ≡ signals_at timings (window_numbers checks timings scope)
signals-given checks timings limits scope e =
    let ks = window_numbers checks timings scope in
    sym (firsts-is (flat_map (λ w. signal_nets w.1) (windows checks (with_limits timings limits) scope)))
    ∙ ap (firsts_after []) (ap (flat_map (λ (w : ℕ × CheckTiming). signal_nets w.1)) (windows-given checks timings limits scope e) ∙ nets-of timings limits ks)

pub pairs-given : (checks : List Check) (timings : List CheckTiming) (limits : List (List ℤ)) (scope : ℕ) → length limits ≡ length timings → pairs checks (with_limits timings limits) scope ≡ pairs_at timings limits (window_numbers checks timings scope)
pairs-given checks timings limits scope e =
    let ks = window_numbers checks timings scope in
    ap (map (λ (w : ℕ × CheckTiming). pair_of (signals checks (with_limits timings limits) scope) w.1)) (windows-given checks timings limits scope e)
    ∙ ap (λ ns. map (λ (w : ℕ × CheckTiming). pair_of ns w.1) (windows_at timings limits ks)) (signals-given checks timings limits scope e)

-- with limits of their own
limits-own : (ts : List CheckTiming) → with_limits ts (map (λ (t : CheckTiming). t.limits) ts) ≡ ts
limits-own [] = refl
limits-own (t ∷ ts) = ap (λ us. t ∷ us) (limits-own ts)

pub signals-own : (checks : List Check) (timings : List CheckTiming) (scope : ℕ) → signals checks timings scope ≡ signals_at timings (window_numbers checks timings scope)
signals-own checks timings scope =
    ap (λ ts. signals checks ts scope) (sym (limits-own timings)) ∙ signals-given checks timings (map (λ (t : CheckTiming). t.limits) timings) scope (length-map timings (λ (t : CheckTiming). t.limits))

-- short limits
pub short-given : (checks : List Check) (timings : List CheckTiming) (limits : List (List ℤ)) (scope : ℕ) → length limits ≡ length timings → AreShort checks (with_limits timings limits) scope → AreShortAt timings limits (window_numbers checks timings scope)
short-given checks timings limits scope e h =
    let ks = window_numbers checks timings scope in
    let n : ℕ = length (signals_at timings ks) in
    let given : All (λ (w : ℕ × CheckTiming). IsShort n w.1) (windows_at timings limits ks) =
    subst (λ ws. All (λ (w : ℕ × CheckTiming). IsShort n w.1) ws) (windows-given checks timings limits scope e) (subst (λ ns. All (λ (w : ℕ × CheckTiming). IsShort (length ns) w.1) (windows checks (with_limits timings limits) scope)) (signals-given checks timings limits scope e) h) in
    all-unmapped (λ (w : ℕ × CheckTiming). IsShort n w.1) (λ k. (k, given_at timings limits k)) ks given

pub all-short : (checks : List Check) (timings : List CheckTiming) (limits : List (List ℤ)) (table : List (List ℕ)) → length limits ≡ length timings → AreWindows checks timings table → ((scope : ℕ) → AreShort checks (with_limits timings limits) scope) → AreAllShort timings limits table
all-short checks timings limits table e h short = record {
  each = λ scope l. subst (AreShortAt timings limits) (sym (h.each scope l)) (short-given checks timings limits scope e (short scope));
}

-- numbers of checks
pub zip-few : (checks : List Check) (timings : List CheckTiming) → length (zip checks timings) ≤ length timings
zip-few [] ts = omega arith
zip-few (c ∷ cs) [] = omega arith
zip-few (c ∷ cs) (t ∷ ts) = let h = zip-few cs ts in omega arith

pub windows-among : (checks : List Check) (timings : List CheckTiming) (table : List (List ℕ)) → AreWindows checks timings table → AreAmong (length timings) table
windows-among checks timings table h = record {
  each = λ scope l. subst (λ ks. All (λ k. k < length timings) ks) (sym (h.each scope l ∙ map-mapped (λ (w : ℕ × CheckTiming). w.0) (λ (w : ℕ × (Check × CheckTiming)). (w.0, w.1.1)) (filter (is_window scope) (enumerate_from 0 (zip checks timings)))))
      (numbers-below (is_window scope) 0 (length timings) (zip checks timings) (let few = zip-few checks timings in omega arith));
}
