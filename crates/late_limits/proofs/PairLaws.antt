-- Pairs of listed checks: their signals are numbered, and their limits short.
use Rattle.std.specs.Prelude.{◌≡◌, ℕ, suc, ℤ, pos, ◌+◌, ◌*◌, ◌<◌, ◌^◌, unsigned_abs, true, false, All, List, [], ◌∷◌, ◌++◌, flat_map, length, slice_index_or, Option, Some, None}
use Rattle.std.proofs.Common.{sym, subst, arith, inl, inr}
use Rattle.std.proofs.lemmas.List.{get_or_past, length-append, get_or_append_left, get_or-append-add}
use Rattle.std.proofs.lemmas.List.Elements.{All-map, All-nil, All-cons}
use Rattle.std.proofs.lemmas.Bool.{cases_lt}
use Rattle.sg_circuit.specs.declared.checks.CheckTiming.{CheckTiming}
use Rattle.sg_circuit.specs.declared.checks.Event.{Event}
use Rattle.sg_circuit.specs.Signals.{datum_nets, signal_nets}
use Rattle.neg_limits.specs.declared.pairs.Pair.{Pair}
use Rattle.neg_limits.specs.Zeroing.{IsPairOf, IsShortPair}
use Rattle.late_limits.specs.Pairs.{datum_number, pair_of, part_of, signal_number}
use Rattle.late_limits.specs.Found.{given_at, pairs_at, signals_at, timing_at, windows_at, AreShortAt}
use Rattle.late_limits.proofs.NumberLaws.{all-numbered}

all-left : {A : Type 0} (P : A → Type 0) (xs ys : List A) → All P (xs ++ ys) → All P xs
all-left P xs ys h = λ i d l. subst P (get_or_append_left xs ys d i l) (h i d (let n : length (xs ++ ys) ≡ length xs + length ys = length-append xs ys in omega arith))

all-right : {A : Type 0} (P : A → Type 0) (xs ys : List A) → All P (xs ++ ys) → All P ys
all-right P xs ys h = λ i d l. subst P (get_or-append-add xs ys i d) (h (length xs + i) d (let n : length (xs ++ ys) ≡ length xs + length ys = length-append xs ys in omega arith))

all-pieces : {A B : Type 0} (P : B → Type 0) (f : A → List B) (xs : List A) → All P (flat_map f xs) → All (λ x. All P (f x)) xs
all-pieces P f [] h = All-nil (λ x. All P (f x))
all-pieces P f (x ∷ xs) h = All-cons (λ y. All P (f y)) x xs (all-left P (f x) (flat_map f xs) h) (all-pieces P f xs (all-right P (f x) (flat_map f xs) h))

-- each signal of listed checks has a number
is-pair : (ns : List ℕ) (t : CheckTiming) (limits : List ℤ) → All (λ n. signal_number ns n < length ns) (signal_nets t) → IsPairOf (length ns) (pair_of ns (record t { limits = limits }))
is-pair ns t limits h = record { refer_there = refer; datum_there = datum t.datum (λ i d l. h (suc i) d (omega arith)) }
  where
    refer : signal_number ns t.refer.net < length ns
    refer = h 0 0 (omega arith)

    datum : (o : Option Event) → All (λ n. signal_number ns n < length ns) (datum_nets o) → datum_number ns o < length ns
    datum None g = omega (arith, refer)
    datum (Some event) g = g 0 0 (omega arith)

pub pairs-there : (timings : List CheckTiming) (limits : List (List ℤ)) (checks : List ℕ) → All (IsPairOf (length (signals_at timings checks))) (pairs_at timings limits checks)
pairs-there timings limits checks =
    let ns = signals_at timings checks in
    let each : All (λ k. All (λ n. signal_number ns n < length ns) (signal_nets (timing_at timings k))) checks =
    all-pieces (λ n. signal_number ns n < length ns) (λ k. signal_nets (timing_at timings k)) checks (all-numbered (flat_map (λ k. signal_nets (timing_at timings k)) checks)) in
    All-map (IsPairOf (length ns)) (λ w. pair_of ns w.1) (windows_at timings limits checks)
    (All-map (λ w. IsPairOf (length ns) (pair_of ns w.1)) (λ k. (k, given_at timings limits k)) checks
    (λ i d l. is-pair ns (timing_at timings (slice_index_or checks i d)) (slice_index_or limits (slice_index_or checks i d) []) (each i d l)))

-- each of their limits is short
short-at : (signals : ℕ) (limits : List ℤ) (part : ℕ) → All (λ l. unsigned_abs l * (signals + 1) < 2 ^ 60) limits → unsigned_abs (slice_index_or limits part (pos 0)) * (signals + 1) < 2 ^ 60
short-at signals limits part h = elim (cases_lt part (length limits)) [
  | inl here ↦ h part (pos 0) here
  | inr past ↦ subst (λ l. unsigned_abs l * (signals + 1) < 2 ^ 60) (sym (get_or_past limits part (pos 0) past)) (omega arith)
]

pub pairs-short : (timings : List CheckTiming) (limits : List (List ℤ)) (checks : List ℕ) → AreShortAt timings limits checks → All (IsShortPair (length (signals_at timings checks))) (pairs_at timings limits checks)
pairs-short timings limits checks h =
    let ns = signals_at timings checks in
    let P = λ (p : Pair). IsShortPair (length ns) p in
    All-map P (λ w. pair_of ns w.1) (windows_at timings limits checks)
    (All-map (λ w. P (pair_of ns w.1)) (λ k. (k, given_at timings limits k)) checks
    (λ i d l. (let t = given_at timings limits (slice_index_or checks i d) in record { setup_short = short-at (length ns) t.limits (part_of t.kind false) (h i d l); hold_short = short-at (length ns) t.limits (part_of t.kind true) (h i d l) })))
