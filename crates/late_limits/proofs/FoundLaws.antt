-- What is found of all scopes is an adjustment of each circuit that is like the one that was looked at.
use Rattle.std.specs.Prelude.{◌≡◌, ◌≢◌, ◌⊎◌, ℕ, suc, ℤ, ◌+◌, ◌<◌, ◌^◌, ◌==◌, ◌&&◌, Bool, true, false, if◌then◌else◌, All, List, [], ◌∷◌, ◌++◌, cond, filter, flat_map, length, map, slice_index_or, refl}
use Rattle.std.specs.List.{enumerate_from, range_with_len}
use Rattle.std.proofs.Common.{sym, ◌∙◌, ap, subst, arith, inl, inr}
use Rattle.std.proofs.lemmas.Bool.{cases_eq, eqb-true}
use Rattle.std.proofs.lemmas.List.{get_or-map, length-map}
use Rattle.std.proofs.lemmas.List.Elements.{All-nil}
use Rattle.sg_circuit.specs.declared.checks.Check.{Check}
use Rattle.sg_circuit.specs.declared.checks.CheckTiming.{CheckTiming}
use Rattle.sg_circuit.specs.declared.checks.Zero.{Zero}
use Rattle.sg_circuit.specs.declared.circuits.Parts.{Parts}
use Rattle.sg_circuit.specs.declared.elements.Element as code_element
use Rattle.sg_circuit.specs.declared.elements.ElementKind.{ElementKind}
use Rattle.sg_circuit.specs.declared.elements.ElementKind.TheVariants as kind
use Rattle.sg_circuit.specs.Circuit.{Circuit, Element}
use Rattle.sg_circuit.specs.FanOut.{readers_at}
use Rattle.sg_circuit.specs.Seen.{circuit_seen, element_seen, kind_seen, scope_seen}
use Rattle.sg_circuit.specs.Signals.{signals, windows, AreShort}
use Rattle.neg_limits.specs.declared.pairs.Zeroed.{Zeroed}
use Rattle.neg_limits.specs.Pairs.{delay_at}
use Rattle.neg_limits.specs.Zeroing.{IsAdjusted}
use Rattle.late_limits.specs.declared.adjusting.Adjustment.{Adjustment}
use Rattle.late_limits.specs.declared.adjusting.LateDelay.{LateDelay}
use Rattle.late_limits.specs.Pairs.{pairs, signal_number}
use Rattle.late_limits.specs.Adjusted.{copied, late_delay, zero_of}
use Rattle.late_limits.specs.Adjustments.{is_late, is_late_of, lates_of, with_limits, AreSameElements, more, IsAdjustmentOf, IsLike, IsSameElement}
use Rattle.late_limits.specs.Found.{delay_of, inputs_at, is_code_late, is_late_kind, pairs_at, signals_at, window_numbers, windows_at, AreAllShort, AreAmong, AreFound, AreLates, AreWindows, IsScopeFound}
use Rattle.late_limits.proofs.NumberLaws.{test_other, test_same}
use Rattle.late_limits.proofs.RangeLaws.{pieces-more, pieces-same}
use Rattle.late_limits.proofs.WindowLaws.{all-short, numbers-below, pairs-given, signals-given, windows-given}

-- a function with another value at one place
with_value : {A : Type 0} → (ℕ → A) → ℕ → A → ℕ → A
with_value f n x k = if k == n then x else f k

value-here : {A : Type 0} (f : ℕ → A) (n : ℕ) (x : A) → x ≡ with_value f n x n
unfolding with_value
value-here f n x = sym (ap (λ b. if b then x else f n) (test_same n n refl))

value-other : {A : Type 0} (f : ℕ → A) (n : ℕ) (x : A) (k : ℕ) → k < n → f k ≡ with_value f n x k
unfolding with_value
value-other f n x k l = sym (ap (λ b. if b then x else f k) (test_other k n (λ e. (let no : ⊥ = omega arith in no))))

pub found-none : (timings : List CheckTiming) (limits : List (List ℤ)) (elements : List code_element.Element) (checks lates : List (List ℕ)) (found : Adjustment) → found.delays.items ≡ [] → found.zeroed.items ≡ []
    → AreFound timings limits elements checks lates 0 found
found-none timings limits elements checks lates found e f = record {
  zeroed = λ scope. [];
  delays = λ scope. [];
  each = λ scope l. absurd (omega arith);
  delays_are = e;
  zeroed_are = f;
  short = subst (λ ds. All (λ (d : LateDelay). d.delay < 2 ^ 60) ds) (sym e) (All-nil (λ (d : LateDelay). d.delay < 2 ^ 60));
}

pub found-more : (timings : List CheckTiming) (limits : List (List ℤ)) (elements : List code_element.Element) (checks lates : List (List ℕ)) (scope : ℕ) (before after : Adjustment) (own late : List ℕ)
    → AreFound timings limits elements checks lates scope before → own ≡ readers_at checks scope → late ≡ readers_at lates scope → IsScopeFound timings limits elements own late before after
    → AreFound timings limits elements checks lates (scope + 1) after
found-more timings limits elements checks lates scope before after own late f oe le found = record {
  zeroed = zs;
  delays = ds;
  each = λ k l. each k l (cases_eq k scope);
  delays_are = h.delays_are ∙ (ap (λ xs. xs ++ of_lates scope h.delays) (f.delays_are ∙ pieces-same (λ k. of_lates k (f.delays k)) (λ k. of_lates k (ds k)) scope (λ k l. ap (of_lates k) (value-other f.delays scope h.delays k l)))
      ∙ (ap (λ xs. flat_map (λ k. of_lates k (ds k)) (range_with_len 0 scope) ++ of_lates scope xs) (value-here f.delays scope h.delays) ∙ sym (pieces-more (λ k. of_lates k (ds k)) scope)));
  zeroed_are = h.zeroed_are ∙ (ap (λ xs. xs ++ of_limits scope h.zeroed) (f.zeroed_are ∙ pieces-same (λ k. of_limits k (f.zeroed k)) (λ k. of_limits k (zs k)) scope (λ k l. ap (of_limits k) (value-other f.zeroed scope h.zeroed k l)))
      ∙ (ap (λ xs. flat_map (λ k. of_limits k (zs k)) (range_with_len 0 scope) ++ of_limits scope xs) (value-here f.zeroed scope h.zeroed) ∙ sym (pieces-more (λ k. of_limits k (zs k)) scope)));
  short = h.short f.short;
}
  where
    h : IsScopeFound timings limits elements (readers_at checks scope) (readers_at lates scope) before after
    h = subst (λ xs. IsScopeFound timings limits elements xs (readers_at lates scope) before after) oe (subst (λ xs. IsScopeFound timings limits elements own xs before after) le found)

    zs : ℕ → List Zeroed
    zs = with_value f.zeroed scope h.zeroed

    ds : ℕ → List ℕ
    ds = with_value f.delays scope h.delays

    of_lates : ℕ → List ℕ → List LateDelay
    of_lates k xs = map (delay_of elements (signals_at timings (readers_at checks k)) xs) (readers_at lates k)

    of_limits : ℕ → List Zeroed → List Zero
    of_limits k xs = map (zero_of (windows_at timings limits (readers_at checks k))) xs

    each : (k : ℕ) → k < scope + 1 → (k ≡ scope) ⊎ (k ≢ scope) → IsAdjusted (length (signals_at timings (readers_at checks k))) (pairs_at timings limits (readers_at checks k)) (zs k) (ds k)
    each k l (inl same) =
        subst (λ n. IsAdjusted (length (signals_at timings (readers_at checks n))) (pairs_at timings limits (readers_at checks n)) (zs n) (ds n)) (sym same)
        (subst (λ z. IsAdjusted (length (signals_at timings (readers_at checks scope))) (pairs_at timings limits (readers_at checks scope)) z (ds scope)) (value-here f.zeroed scope h.zeroed)
        (subst (λ d. IsAdjusted (length (signals_at timings (readers_at checks scope))) (pairs_at timings limits (readers_at checks scope)) h.zeroed d) (value-here f.delays scope h.delays) h.adjusted))
    each k l (inr other) =
        let m : k < scope = omega arith in
        subst (λ z. IsAdjusted (length (signals_at timings (readers_at checks k))) (pairs_at timings limits (readers_at checks k)) z (ds k)) (value-other f.zeroed scope h.zeroed k m)
        (subst (λ d. IsAdjusted (length (signals_at timings (readers_at checks k))) (pairs_at timings limits (readers_at checks k)) (f.zeroed k) d) (value-other f.delays scope h.delays k m) (f.each k m))

-- elements that are the same but for delays
same-head : {e f : Element} {es fs : List Element} → AreSameElements (e ∷ es) (f ∷ fs) → IsSameElement e f
same-head (more h hs) = h

same-tail : {e f : Element} {es fs : List Element} → AreSameElements (e ∷ es) (f ∷ fs) → AreSameElements es fs
same-tail (more h hs) = hs

same-late : (parts : Parts) (k : ElementKind) → is_late (kind_seen parts k) ≡ is_late_kind k
same-late parts (kind.Gate gate delays) = refl
same-late parts (kind.Udp udp delays) = refl
same-late parts (kind.Pass constant) = refl
same-late parts (kind.Leg timing) = refl
same-late parts (kind.Path paths style) = refl
same-late parts (kind.Late delay) = refl

-- the Lates of a scope, with what is the same of each
lates-from : (parts : Parts) (scope n : ℕ) (es : List code_element.Element) (fs : List Element) → AreSameElements (map (element_seen parts) es) fs → (D : ℕ × Element → LateDelay) (C : ℕ → LateDelay)
    → ((i : ℕ) (d : code_element.Element) (f : Element) → i < length es → IsSameElement (element_seen parts (slice_index_or es i d)) f → f.scope ≡ scope → D (n + i, f) ≡ C (n + i))
    → map D (filter (is_late_of scope) (enumerate_from n fs)) ≡ map C (map (λ e. e.0) (filter (is_code_late scope) (enumerate_from n es)))
lates-from parts scope n [] [] s D C h = refl
lates-from parts scope n [] (f ∷ fs) s D C h = absurd (no s)
  where
    no : AreSameElements [] (f ∷ fs) → ⊥
    no q = elim q [ ]
lates-from parts scope n (e ∷ es) [] s D C h = absurd (no s)
  where
    no : AreSameElements (map (element_seen parts) (e ∷ es)) [] → ⊥
    no q = elim q [ ]
lates-from parts scope n (e ∷ es) (f ∷ fs) s D C h =
    by ((f.scope == scope) && is_late f.kind) (is_code_late scope (n, e)) test first
    (lates-from parts scope (n + 1) es fs (same-tail s) D C (λ i d g l q o. (let k : n + 1 + i ≡ n + suc i = omega arith in subst (λ m. D (m, g) ≡ C m) (sym k) (h (suc i) d g (omega arith) q o))))
  where
    own : IsSameElement (element_seen parts e) f
    own = same-head s

    given : List (ℕ × Element)
    given = filter (is_late_of scope) (enumerate_from (n + 1) fs)

    code : List (ℕ × code_element.Element)
    code = filter (is_code_late scope) (enumerate_from (n + 1) es)

    test : ((f.scope == scope) && is_late f.kind) ≡ is_code_late scope (n, e)
    test = ap (λ b. (f.scope == scope) && b) (own.kind ∙ same-late parts e.kind) ∙ ap (λ x. (x == scope) && is_late_kind e.kind) own.scope

    and_left : (a b : Bool) → (a && b) ≡ true → a ≡ true
    and_left true b q = refl
    and_left false b q = absurd (cc)

    first : ((f.scope == scope) && is_late f.kind) ≡ true → D (n, f) ≡ C n
    first q =
        let k : n + 0 ≡ n = omega arith in
        subst (λ m. D (m, f) ≡ C m) k (h 0 e f (omega arith) own (eqb-true f.scope scope (and_left (f.scope == scope) (is_late f.kind) q)))

    by : (p q : Bool) → p ≡ q → (p ≡ true → D (n, f) ≡ C n) → map D given ≡ map C (map (λ x. x.0) code) → map D (cond p ((n, f) ∷ given) given) ≡ map C (map (λ x. x.0) (cond q ((n, e) ∷ code) code))
    by true true t g rest = ap (λ x. x ∷ map D given) (g refl) ∙ ap (λ xs. C n ∷ xs) rest
    by true false t g rest = absurd (cc)
    by false true t g rest = absurd (cc)
    by false false t g rest = rest

-- so what was found is an adjustment
found-like : (parts : Parts) (limits : List (List ℤ)) (checks lates : List (List ℕ)) (scopes : ℕ) (found : Adjustment) (made : Circuit) → AreWindows parts.checks.items parts.check_timings.items checks → AreLates parts.elements.items lates
    → length limits ≡ length parts.check_timings.items → length checks ≡ scopes → length lates ≡ scopes → scopes ≡ length parts.scopes.items
    → AreFound parts.check_timings.items limits parts.elements.items checks lates scopes found → IsLike (circuit_seen parts) limits made → IsAdjustmentOf made found
found-like parts limits checks lates scopes found made w late e cn ln sn f like = record {
  zeroed = f.zeroed;
  delays = f.delays;
  are = record {
    each = λ scope l. (let m : scope < scopes = subst (λ n. scope < n) many l in
        subst (λ ps. IsAdjusted (length (signals made.checks made.check_timings scope)) ps (f.zeroed scope) (f.delays scope)) (sym (pairs-made scope m))
        (subst (λ ns. IsAdjusted (length ns) (pairs_at timings limits (readers_at checks scope)) (f.zeroed scope) (f.delays scope)) (sym (signals-made scope m)) (f.each scope m)));
  };
  delays_are = f.delays_are ∙ (pieces-same (λ scope. map (delay_of elements (signals_at timings (readers_at checks scope)) (f.delays scope)) (readers_at lates scope)) (λ scope. map given_delay (lates_of made.elements scope)) scopes lates-made
      ∙ ap (λ n. flat_map (λ scope. map given_delay (lates_of made.elements scope)) (range_with_len 0 n)) (sym many));
  zeroed_are = f.zeroed_are ∙ (pieces-same (λ scope. map (zero_of (windows_at timings limits (readers_at checks scope))) (f.zeroed scope)) (λ scope. map (zero_of (windows made.checks made.check_timings scope)) (f.zeroed scope)) scopes
      (λ scope l. ap (λ ws. map (zero_of ws) (f.zeroed scope)) (sym (windows-made scope l)))
      ∙ ap (λ n. flat_map (λ scope. map (zero_of (windows made.checks made.check_timings scope)) (f.zeroed scope)) (range_with_len 0 n)) (sym many));
  short = f.short;
}
  where
    timings : List CheckTiming
    timings = parts.check_timings.items

    elements : List code_element.Element
    elements = parts.elements.items

    many : length made.scopes ≡ scopes
    many = like.scopes ∙ (length-map parts.scopes.items (λ s. scope_seen s) ∙ sym sn)

    numbers : (scope : ℕ) → scope < scopes → window_numbers parts.checks.items timings scope ≡ readers_at checks scope
    numbers scope l = sym (w.each scope (subst (λ n. scope < n) (sym cn) l))

    windows-made : (scope : ℕ) → scope < scopes → windows made.checks made.check_timings scope ≡ windows_at timings limits (readers_at checks scope)
    windows-made scope l = ap (λ cs. windows cs made.check_timings scope) like.checks
        ∙ (ap (λ ts. windows parts.checks.items ts scope) like.timings ∙ (windows-given parts.checks.items timings limits scope e ∙ ap (windows_at timings limits) (numbers scope l)))

    signals-made : (scope : ℕ) → scope < scopes → signals made.checks made.check_timings scope ≡ signals_at timings (readers_at checks scope)
    signals-made scope l = ap (λ cs. signals cs made.check_timings scope) like.checks
        ∙ (ap (λ ts. signals parts.checks.items ts scope) like.timings ∙ (signals-given parts.checks.items timings limits scope e ∙ ap (signals_at timings) (numbers scope l)))

    pairs-made : (scope : ℕ) → scope < scopes → pairs made.checks made.check_timings scope ≡ pairs_at timings limits (readers_at checks scope)
    pairs-made scope l = ap (λ cs. pairs cs made.check_timings scope) like.checks
        ∙ (ap (λ ts. pairs parts.checks.items ts scope) like.timings ∙ (pairs-given parts.checks.items timings limits scope e ∙ ap (pairs_at timings limits) (numbers scope l)))

    given_delay : ℕ × Element → LateDelay
    given_delay x = record { element = x.0; delay = late_delay made f.delays x.1 }

    one : (scope : ℕ) → scope < scopes → (i : ℕ) (d : code_element.Element) (x : Element) → i < length elements → IsSameElement (element_seen parts (slice_index_or elements i d)) x → x.scope ≡ scope
        → given_delay (0 + i, x) ≡ delay_of elements (signals_at timings (readers_at checks scope)) (f.delays scope) (0 + i)
    one scope l i d x m own at =
        let k : 0 + i ≡ i = omega arith in
        let read : x.inputs ≡ inputs_at elements (0 + i) = own.inputs ∙ (sym (get_or-map (λ (y : code_element.Element). y.inputs.items) elements i d [] m) ∙ ap (inputs_at elements) (sym k)) in
        let number : signal_number (signals made.checks made.check_timings x.scope) (copied x.inputs) ≡ signal_number (signals_at timings (readers_at checks scope)) (copied (inputs_at elements (0 + i))) =
        ap (λ s. signal_number (signals made.checks made.check_timings s) (copied x.inputs)) at ∙ (ap (λ ns. signal_number ns (copied x.inputs)) (signals-made scope l) ∙ ap (λ ns. signal_number (signals_at timings (readers_at checks scope)) (copied ns)) read) in
        ap {B = LateDelay} (λ n. record { element = 0 + i; delay = n })
        (ap (λ s. delay_at (f.delays s) (signal_number (signals made.checks made.check_timings x.scope) (copied x.inputs))) at ∙ ap (delay_at (f.delays scope)) number)

    lates-made : (scope : ℕ) → scope < scopes → map (delay_of elements (signals_at timings (readers_at checks scope)) (f.delays scope)) (readers_at lates scope) ≡ map given_delay (lates_of made.elements scope)
    lates-made scope l = ap (map (delay_of elements (signals_at timings (readers_at checks scope)) (f.delays scope))) (late.each scope (subst (λ n. scope < n) (sym ln) l))
        ∙ sym (lates-from parts scope 0 elements made.elements like.elements given_delay (delay_of elements (signals_at timings (readers_at checks scope)) (f.delays scope)) (one scope l))

pub found-is : (parts : Parts) (limits : List (List ℤ)) (checks lates : List (List ℕ)) (scopes : ℕ) (found : Adjustment) (c : Circuit) → circuit_seen parts ≡ c → AreWindows parts.checks.items parts.check_timings.items checks
    → AreLates parts.elements.items lates → length limits ≡ length parts.check_timings.items → length checks ≡ scopes → length lates ≡ scopes → scopes ≡ length parts.scopes.items
    → AreFound parts.check_timings.items limits parts.elements.items checks lates scopes found → (made : Circuit) → IsLike c limits made → IsAdjustmentOf made found
found-is parts limits checks lates scopes found c seen w late e cn ln sn f made like = found-like parts limits checks lates scopes found made w late e cn ln sn f (subst (λ x. IsLike x limits made) (sym seen) like)

-- what the tables tell
pub lates-among : (elements : List code_element.Element) (table : List (List ℕ)) → AreLates elements table → AreAmong (length elements) table
lates-among elements table h = record {
  each = λ scope l. subst (λ ks. All (λ k. k < length elements) ks) (sym (h.each scope l)) (numbers-below (is_code_late scope) 0 (length elements) elements (omega arith));
}

pub read-windows : (checks seen_checks : List Check) (timings seen : List CheckTiming) (table : List (List ℕ)) → seen_checks ≡ checks → seen ≡ timings → AreWindows seen_checks seen table → AreWindows checks timings table
read-windows checks seen_checks timings seen table e f h = subst (λ cs. AreWindows cs timings table) e (subst (λ ts. AreWindows seen_checks ts table) f h)

pub read-lates : (elements seen : List code_element.Element) (table : List (List ℕ)) → seen ≡ elements → AreLates seen table → AreLates elements table
read-lates elements seen table e h = subst (λ es. AreLates es table) e h

pub short-in : (parts : Parts) (c : Circuit) (limits : List (List ℤ)) (table : List (List ℕ)) → circuit_seen parts ≡ c → length limits ≡ length c.check_timings → ((scope : ℕ) → AreShort c.checks (with_limits c.check_timings limits) scope)
    → AreWindows parts.checks.items parts.check_timings.items table → AreAllShort parts.check_timings.items limits table
short-in parts c limits table e n short w =
    all-short parts.checks.items parts.check_timings.items limits table (subst (λ (x : Circuit). length limits ≡ length x.check_timings) (sym e) n) w
    (subst (λ (x : Circuit). (scope : ℕ) → AreShort x.checks (with_limits x.check_timings limits) scope) (sym e) short)
