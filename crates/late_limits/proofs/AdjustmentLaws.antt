-- What is so of an adjustment: each of its delays is of a Late, each Late has one, and each limit that is taken as 0 is one of a check with Lates.
use Rattle.std.specs.Prelude.{◌≡◌, ◌⊎◌, ℕ, zero, suc, ◌+◌, ◌<◌, ◌≤◌, ◌==◌, ◌&&◌, Bool, true, false, All, List, [], ◌∷◌, ◌++◌, cond, filter, flat_map, length, map, slice_index_or, take, zip, refl, IsSome}
use Rattle.std.specs.List.{enumerate_from, range_with_len}
use Rattle.std.proofs.Common.{sym, ◌∙◌, ap, subst, arith, inl, inr}
use Rattle.std.proofs.lemmas.List.{get_or_default, length-map}
use Rattle.std.proofs.lemmas.List.Elements.{All-append, All-cons, All-filter, All-map, All-nil, filter_passes}
use Rattle.std.proofs.lemmas.Slice.Zip.{get_or-zip}
use Rattle.sg_circuit.specs.declared.checks.Check.{Check}
use Rattle.sg_circuit.specs.declared.checks.CheckKind.{CheckKind}
use Rattle.sg_circuit.specs.declared.checks.CheckKind.TheVariants.{Recrem}
use Rattle.sg_circuit.specs.declared.checks.CheckTiming.{CheckTiming}
use Rattle.sg_circuit.specs.Circuit.{Circuit, Element, element_at}
use Rattle.sg_circuit.specs.Closed.{IsClosed, IsZeroOf}
use Rattle.sg_circuit.specs.Signals.{is_window, signals, takes_lates, windows}
use Rattle.neg_limits.specs.declared.pairs.Zeroed.{Zeroed}
use Rattle.neg_limits.specs.Zeroing.{zeroed_at}
use Rattle.neg_limits.proofs.ZeroingLaws.{length-zero_all}
use Rattle.late_limits.specs.declared.adjusting.Adjustment.{Adjustment}
use Rattle.late_limits.specs.declared.adjusting.LateDelay.{LateDelay}
use Rattle.late_limits.specs.Pairs.{pair_of, pairs, part_of}
use Rattle.late_limits.specs.Adjusted.{late_delay, no_window, window_at, zero_of}
use Rattle.late_limits.specs.Adjustments.{delays_of, is_late, is_late_of, lates_of, IsAdjustmentOf}
use Rattle.late_limits.proofs.NumberLaws.{test_same}
use Rattle.late_limits.proofs.AlikeLaws.{window_of}
use Rattle.late_limits.proofs.WindowLaws.{zip-few}

-- ---- lists

abbrev pub IsIn : {A : Type 0} → A → List A → Type 0
IsIn x [] = ⊥
IsIn x (y ∷ ys) = (y ≡ x) ⊎ IsIn x ys

in-left : {A : Type 0} (x : A) (xs ys : List A) → IsIn x xs → IsIn x (xs ++ ys)
in-left x [] ys h = absurd h
in-left x (y ∷ xs) ys (inl e) = inl e
in-left x (y ∷ xs) ys (inr h) = inr (in-left x xs ys h)

in-right : {A : Type 0} (x : A) (xs ys : List A) → IsIn x ys → IsIn x (xs ++ ys)
in-right x [] ys h = h
in-right x (y ∷ xs) ys h = inr (in-right x xs ys h)

in-map : {A B : Type 0} (f : A → B) (x : A) (xs : List A) → IsIn x xs → IsIn (f x) (map f xs)
in-map f x [] h = absurd h
in-map f x (y ∷ xs) (inl e) = inl (ap f e)
in-map f x (y ∷ xs) (inr h) = inr (in-map f x xs h)

in-filter : {A : Type 0} (test : A → Bool) (x : A) (xs : List A) → test x ≡ true → IsIn x xs → IsIn x (filter test xs)
in-filter test x [] t h = absurd h
in-filter test x (y ∷ xs) t (inl e) = subst (λ b. IsIn x (cond b (y ∷ filter test xs) (filter test xs))) (sym (ap test e ∙ t)) (inl e)
in-filter test x (y ∷ xs) t (inr h) = by (test y) (in-filter test x xs t h)
  where
    by : (b : Bool) → IsIn x (filter test xs) → IsIn x (cond b (y ∷ filter test xs) (filter test xs))
    by true g = inr g
    by false g = g

in-enumerated : {A : Type 0} (n i : ℕ) (xs : List A) (d : A) → i < length xs → IsIn (n + i, slice_index_or xs i d) (enumerate_from n xs)
in-enumerated n i [] d l = absurd (omega arith)
in-enumerated {A} n zero (x ∷ xs) d l = let e : n ≡ n + 0 = omega arith in inl (ap {B = ℕ × A} (λ k. (k, x)) e)
in-enumerated {A} n (suc i) (x ∷ xs) d l = let e : n + 1 + i ≡ n + suc i = omega arith in inr (subst (λ k. IsIn {A = ℕ × A} (k, slice_index_or xs i d) (enumerate_from (n + 1) xs)) e (in-enumerated (n + 1) i xs d (omega arith)))

in-pieces : {A : Type 0} (f : ℕ → List A) (x : A) (a n k : ℕ) → a ≤ k → k < a + n → IsIn x (f k) → IsIn x (flat_map f (range_with_len a n))
in-pieces f x a zero k l m h = absurd (omega arith)
in-pieces f x a (suc n) k l m h = by (sides a k l) (λ q. in-pieces f x (a + 1) n k q (omega arith) h)
  where
    sides : (a k : ℕ) → a ≤ k → (a ≡ k) ⊎ (a + 1 ≤ k)
    sides a k l = grind arith

    by : (a ≡ k) ⊎ (a + 1 ≤ k) → (a + 1 ≤ k → IsIn x (flat_map f (range_with_len (a + 1) n))) → IsIn x (f a ++ flat_map f (range_with_len (a + 1) n))
    by (inl e) rest = in-left x (f a) (flat_map f (range_with_len (a + 1) n)) (subst (λ j. IsIn x (f j)) (sym e) h)
    by (inr q) rest = in-right x (f a) (flat_map f (range_with_len (a + 1) n)) (rest q)

pub all-in : {A : Type 0} (P : A → Type 0) (x : A) (xs : List A) → All P xs → IsIn x xs → P x
all-in P x [] h i = absurd i
all-in P x (y ∷ ys) h (inl e) = subst P e (h 0 y (omega arith))
all-in P x (y ∷ ys) h (inr i) = all-in P x ys (λ k d l. h (suc k) d (omega arith)) i

all-both : {A : Type 0} (P Q : A → Type 0) (xs : List A) → All P xs → All Q xs → All (λ x. P x × Q x) xs
all-both P Q xs g h = λ i d l. (g i d l, h i d l)

all-pieces : {A : Type 0} (P : A → Type 0) (f : ℕ → List A) (a n : ℕ) → ((k : ℕ) → k < a + n → All P (f k)) → All P (flat_map f (range_with_len a n))
all-pieces P f a zero h = All-nil P
all-pieces P f a (suc n) h = All-append P (f a) (flat_map f (range_with_len (a + 1) n)) (h a (omega arith)) (all-pieces P f (a + 1) n (λ k l. h k (omega arith)))

all-enumerated : {A : Type 0} (P : ℕ × A → Type 0) (n : ℕ) (xs : List A) → ((i : ℕ) (d : A) → i < length xs → P (n + i, slice_index_or xs i d)) → All P (enumerate_from n xs)
all-enumerated P n [] h = All-nil P
all-enumerated {A} P n (x ∷ xs) h =
    let e : n + 0 ≡ n = omega arith in
    All-cons P (n, x) (enumerate_from (n + 1) xs) (subst (λ k. P (k, x)) e (h 0 x (omega arith)))
    (all-enumerated P (n + 1) xs (λ i d l. (let k : n + suc i ≡ n + 1 + i = omega arith in subst (λ m. P (m, slice_index_or xs i d)) k (h (suc i) d (omega arith)))))

and_both : (a b : Bool) → (a && b) ≡ true → (a ≡ true) × (b ≡ true)
and_both true b e = (refl, e)
and_both false b e = absurd (cc)

-- ---- delays

pub record IsDelayOf (c : Circuit) (delays : ℕ → List ℕ) (d : LateDelay) : Type 0 where
  pub there : d.element < length c.elements
  pub late : is_late (element_at c d.element).kind ≡ true
  pub delay : d.delay ≡ late_delay c delays (element_at c d.element)

abbrev given_delay : Circuit → (ℕ → List ℕ) → ℕ × Element → LateDelay
given_delay c delays e = record { element = e.0; delay = late_delay c delays e.1 }

abbrev Stands : Circuit → ℕ × Element → Type 0
Stands c e = (e.0 < length c.elements) × (e.1 ≡ element_at c e.0)

delays-fit : (c : Circuit) (delays : ℕ → List ℕ) → All (IsDelayOf c delays) (delays_of c delays)
delays-fit c delays = all-pieces (IsDelayOf c delays) (λ scope. map (given_delay c delays) (lates_of c.elements scope)) 0 (length c.scopes) (λ scope l. All-map (IsDelayOf c delays) (given_delay c delays) (lates_of c.elements scope) (fits scope))
  where
    stands : (i : ℕ) (d : Element) → i < length c.elements → (0 + i < length c.elements) × (slice_index_or c.elements i d ≡ element_at c (0 + i))
    stands i d l = let e : i ≡ 0 + i = omega arith in (omega arith, get_or_default c.elements i d _ l ∙ ap (element_at c) e)

    fits : (scope : ℕ) → All (λ e. IsDelayOf c delays (given_delay c delays e)) (lates_of c.elements scope)
    fits scope i d l =
        let e : ℕ × Element = slice_index_or (lates_of c.elements scope) i d in
        let own : Stands c e = All-filter (is_late_of scope) (Stands c) (enumerate_from 0 c.elements) (all-enumerated (Stands c) 0 c.elements stands) i d l in
        let test : is_late_of scope e ≡ true = filter_passes (is_late_of scope) (enumerate_from 0 c.elements) i d l in
        record { there = own.0; late = subst (λ (x : Element). is_late x.kind ≡ true) own.1 (and_both (e.1.scope == scope) (is_late e.1.kind) test).1; delay = ap (late_delay c delays) own.1 }

pub adjustment-delays : (c : Circuit) (a : Adjustment) (h : IsAdjustmentOf c a) → All (IsDelayOf c h.delays) a.delays.items
adjustment-delays c a h = subst (λ ds. All (IsDelayOf c h.delays) ds) (sym h.delays_are) (delays-fit c h.delays)

pub adjustment-every : (c : Circuit) (a : Adjustment) (h : IsAdjustmentOf c a) → IsClosed c → (i : ℕ) → i < length c.elements → is_late (element_at c i).kind ≡ true
    → IsIn (record { element = i; delay = late_delay c h.delays (element_at c i) }) a.delays.items
adjustment-every c a h closed i l late =
    let e : Element = element_at c i in
    let n : 0 + i ≡ i = omega arith in
    let scope : e.scope < length c.scopes = closed.element_scopes i _ l in
    let one : IsIn {A = ℕ × Element} (i, e) (enumerate_from 0 c.elements) = subst (λ k. IsIn {A = ℕ × Element} (k, e) (enumerate_from 0 c.elements)) n (in-enumerated 0 i c.elements _ l) in
    let test : is_late_of e.scope (i, e) ≡ true = ap (λ b. b && is_late e.kind) (test_same e.scope e.scope refl) ∙ late in
    subst (λ ds. IsIn (given_delay c h.delays (i, e)) ds) (sym h.delays_are)
    (in-pieces (λ s. map (given_delay c h.delays) (lates_of c.elements s)) (given_delay c h.delays (i, e)) 0 (length c.scopes) e.scope (omega arith) (omega arith)
    (in-map (given_delay c h.delays) (i, e) (lates_of c.elements e.scope) (in-filter (is_late_of e.scope) (i, e) (enumerate_from 0 c.elements) test one)))

-- ---- limits that are taken as 0

part-two : (k : CheckKind) (hold : Bool) → part_of k hold < 2
part-two Recrem true = omega arith
part-two Recrem false = omega arith
part-two _ true = omega arith
part-two _ false = omega arith

-- a check of a scope that takes limits below 0 has Lates
pub record IsWindowOf (c : Circuit) (w : ℕ × CheckTiming) : Type 0 where
  pub there : w.0 < length c.check_timings
  pub late : (d : CheckTiming) → IsSome (slice_index_or c.check_timings w.0 d).late

abbrev StandsAt : Circuit → ℕ × (Check × CheckTiming) → Type 0
StandsAt c w = (w.0 < length c.check_timings) × ((d : CheckTiming) → slice_index_or c.check_timings w.0 d ≡ w.1.1)

windows-late : (c : Circuit) (scope : ℕ) → IsClosed c → All (IsWindowOf c) (windows c.checks c.check_timings scope)
windows-late c scope closed = All-map (IsWindowOf c) window_of (filter (is_window scope) (enumerate_from 0 (zip c.checks c.check_timings))) one
  where
    stands : (i : ℕ) (d : Check × CheckTiming) → i < length (zip c.checks c.check_timings) → StandsAt c (0 + i, slice_index_or (zip c.checks c.check_timings) i d)
    stands i d l =
        let few = zip-few c.checks c.check_timings in
        let m : i < length c.check_timings = omega arith in
        let n : i < length c.checks = (let same = closed.timing_of_each in omega arith) in
        let k : 0 + i ≡ i = omega arith in (
          omega arith,
          λ t. ap (λ j. slice_index_or c.check_timings j t) k ∙ (get_or_default c.check_timings i t d.1 m ∙ sym (ap {A = Check × CheckTiming} (λ w. w.1) (get_or-zip c.checks c.check_timings i d n m))),
        )

    one : All (λ w. IsWindowOf c (window_of w)) (filter (is_window scope) (enumerate_from 0 (zip c.checks c.check_timings)))
    one i d l =
        let all = enumerate_from 0 (zip c.checks c.check_timings) in
        let w : ℕ × (Check × CheckTiming) = slice_index_or (filter (is_window scope) all) i d in
        let own : StandsAt c w = All-filter (is_window scope) (StandsAt c) all (all-enumerated (StandsAt c) 0 (zip c.checks c.check_timings) stands) i d l in
        let test : is_window scope w ≡ true = filter_passes (is_window scope) all i d l in
        let takes : takes_lates w.1.1.kind ≡ true = (and_both (w.1.0.scope == scope) (takes_lates w.1.1.kind) test).1 in
        record { there = own.0; late = λ t. (closed.lates w.0 t own.0).exact.1 (ap (λ (x : CheckTiming). takes_lates x.kind) (own.1 t) ∙ takes) }

pub adjustment-zeroes : (c : Circuit) (a : Adjustment) → IsAdjustmentOf c a → IsClosed c → All (IsZeroOf c) a.zeroed.items
adjustment-zeroes c a h closed =
    subst (λ zs. All (IsZeroOf c) zs) (sym h.zeroed_are)
    (all-pieces (IsZeroOf c) (λ s. map (zero_of (windows c.checks c.check_timings s)) (h.zeroed s)) 0 (length c.scopes)
    (λ s l. All-map (IsZeroOf c) (zero_of (windows c.checks c.check_timings s)) (h.zeroed s) (of s (omega arith))))
  where
    of : (s : ℕ) → s < length c.scopes → All (λ z. IsZeroOf c (zero_of (windows c.checks c.check_timings s) z)) (h.zeroed s)
    of s l i d m =
        let ws = windows c.checks c.check_timings s in
        let ps = pairs c.checks c.check_timings s in
        let z : Zeroed = slice_index_or (h.zeroed s) i d in
        let own : (zeroed_at (h.zeroed s) i).pair < length ws =
        subst (λ n. (zeroed_at (h.zeroed s) i).pair < n) (length-zero_all ps (take i (h.zeroed s)) ∙ length-map ws (λ w. pair_of (signals c.checks c.check_timings s) w.1)) ((h.are.each s l).in_order i m).is.there in
        let here : z.pair < length ws = subst (λ (x : Zeroed). x.pair < length ws) (get_or_default (h.zeroed s) i _ d m) own in
        let w : IsWindowOf c (window_at ws z) = windows-late c s closed z.pair no_window here in
        record { check = w.there; late = w.late; part = part-two (window_at ws z).1.kind z.hold }
