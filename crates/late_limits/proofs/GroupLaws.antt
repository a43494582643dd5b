-- What each scope has, in a table that was made of pins.
use Rattle.std.specs.Prelude.{◌≡◌, ℕ, suc, ◌+◌, ◌<◌, ◌≤◌, ◌==◌, ◌&&◌, nat_lt, Bool, true, false, if◌then◌else◌, All, List, [], ◌∷◌, ◌++◌, cond, drop, filter, length, map, min, slice_index_or, zip, refl, Result, Ok, Err, IfOk}
use Rattle.std.specs.List.{enumerate_from}
use Rattle.std.proofs.Common.{sym, ◌∙◌, ap, subst, arith, append_assoc}
use Rattle.std.proofs.lemmas.Bool.{eqb-true, lt-ltb, ltb-true}
use Rattle.std.proofs.lemmas.List.{append-nil, drop_more, drop_all}
use Rattle.std.proofs.lemmas.List.Elements.{All-append, All-cons, All-nil}
use Rattle.std.proofs.lemmas.Slice.Zip.{get_or-zip, length-zip}
use Rattle.sg_circuit.specs.declared.building.Pin.{Pin}
use Rattle.sg_circuit.specs.declared.checks.Check.{Check}
use Rattle.sg_circuit.specs.declared.checks.CheckTiming.{CheckTiming}
use Rattle.sg_circuit.specs.declared.elements.Element as code_element
use Rattle.sg_circuit.specs.Pins.{elements_on, HasPins}
use Rattle.sg_circuit.specs.Signals.{is_window, takes_lates}
use Rattle.sg_circuit.proofs.PinLaws.{picked-append}
use Rattle.sg_circuit.proofs.SeenLaws.{map-mapped}
use Rattle.late_limits.specs.Found.{is_late_kind, AreLates, AreWindows}
use Rattle.late_limits.specs.Grouping.{check_scope, element_scope, is_among, is_late_among, pin_by, pins_by}

-- the numbers under one key
one-pin : (b t : Bool) (net k n : ℕ) → (net == k) ≡ b → elements_on k (if t then record { net = net; element = n } ∷ [] else []) ≡ (if b && t then n ∷ [] else [])
one-pin true true net k n e = ap (λ c. if c then n ∷ [] else []) e
one-pin true false net k n e = refl
one-pin false true net k n e = ap (λ c. if c then n ∷ [] else []) e
one-pin false false net k n e = refl

one-kept : {A : Type 0} (b : Bool) (n : ℕ) (x : A) (rest : List (ℕ × A)) → map (λ e. e.0) (cond b ((n, x) ∷ rest) rest) ≡ (if b then n ∷ [] else []) ++ map (λ e. e.0) rest
one-kept true n x rest = refl
one-kept false n x rest = refl

by-key : {A : Type 0} (key : A → ℕ) (test keep : A → Bool) (k n : ℕ) (xs : List A) → ((x : A) → ((key x == k) && test x) ≡ ((key x == k) && keep x))
    → elements_on k (pins_by key test n xs) ≡ map (λ e. e.0) (filter (λ (e : ℕ × A). (key e.1 == k) && keep e.1) (enumerate_from n xs))
by-key key test keep k n [] same = refl
by-key {A} key test keep k n (x ∷ xs) same =
    picked-append k (pin_by key test n x) (pins_by key test (n + 1) xs)
    ∙ (ap (λ ns. ns ++ elements_on k (pins_by key test (n + 1) xs)) (one-pin (key x == k) (test x) (key x) k n refl ∙ ap (λ b. if b then n ∷ [] else []) (same x))
    ∙ (ap (λ ns. (if (key x == k) && keep x then n ∷ [] else []) ++ ns) (by-key key test keep k (n + 1) xs same)
    ∙ sym (one-kept ((key x == k) && keep x) n x (filter (λ (e : ℕ × A). (key e.1 == k) && keep e.1) (enumerate_from (n + 1) xs)))))

-- keys of so many
pins-within : {A : Type 0} (key : A → ℕ) (test : A → Bool) (keys n : ℕ) (xs : List A) → All (λ x. test x ≡ true → key x < keys) xs → All (λ (p : Pin). p.net < keys) (pins_by key test n xs)
pins-within key test keys n [] h = All-nil (λ (p : Pin). p.net < keys)
pins-within key test keys n (x ∷ xs) h =
    All-append (λ (p : Pin). p.net < keys) (pin_by key test n x) (pins_by key test (n + 1) xs) (by (test x) (h 0 x (omega arith))) (pins-within key test keys (n + 1) xs (λ i d l. h (suc i) d (omega arith)))
  where
    by : (b : Bool) → (b ≡ true → key x < keys) → All (λ (p : Pin). p.net < keys) (if b then record { net = key x; element = n } ∷ [] else [])
    by true g = All-cons (λ (p : Pin). p.net < keys) (record { net = key x; element = n }) [] (g refl) (All-nil (λ (p : Pin). p.net < keys))
    by false g = All-nil (λ (p : Pin). p.net < keys)

-- one item more
pub pins-more : {A : Type 0} (key : A → ℕ) (test : A → Bool) (xs : List A) (i : ℕ) (x : A) (pins more all : List Pin) → i < length xs → x ≡ slice_index_or xs i x → pins ++ pins_by key test i (drop i xs) ≡ all
    → more ≡ pins ++ pin_by key test i x → more ++ pins_by key test (i + 1) (drop (i + 1) xs) ≡ all
pins-more key test xs i x pins more all l at h new =
    let rest : drop i xs ≡ x ∷ drop (i + 1) xs = drop_more xs i x l ∙ ap (λ y. y ∷ drop (i + 1) xs) (sym at) in
    ap (λ ps. ps ++ pins_by key test (i + 1) (drop (i + 1) xs)) new
    ∙ (append_assoc pins (pin_by key test i x) (pins_by key test (i + 1) (drop (i + 1) xs)) ∙ (ap (λ ys. pins ++ pins_by key test i ys) (sym rest) ∙ h))

pub pins-end : {A : Type 0} (key : A → ℕ) (test : A → Bool) (xs : List A) (i : ℕ) (pins all : List Pin) → length xs ≤ i → pins ++ pins_by key test i (drop i xs) ≡ all → pins ≡ all
pins-end key test xs i pins all l h = sym (append-nil pins) ∙ (ap (λ ys. pins ++ pins_by key test i ys) (sym (drop_all i xs l)) ∙ h)

-- checks with what they look for
pub zip-read : (checks : List Check) (timings : List CheckTiming) (i : ℕ) (check : Check) (timing : CheckTiming) → length checks ≡ length timings → i < length checks → check ≡ slice_index_or checks i check → timing ≡ slice_index_or timings i timing
    → (i < length (zip checks timings)) × (◌≡◌ {A = Check × CheckTiming} (check, timing) (slice_index_or (zip checks timings) i (check, timing)))
zip-read checks timings i check timing same l at bt =
    let m : i < length timings = omega arith in
    let long : length (zip checks timings) ≡ min (length checks) (length timings) = length-zip checks timings in (
      omega arith,
      ap {B = Check × CheckTiming} (λ c. (c, timing)) at ∙ (ap {B = Check × CheckTiming} (λ t. (slice_index_or checks i check, t)) bt ∙ sym (get_or-zip checks timings i (check, timing) l m)),
    )

pub zip-past : (checks : List Check) (timings : List CheckTiming) (i : ℕ) → length checks ≤ i → length (zip checks timings) ≤ i
zip-past checks timings i l = let long : length (zip checks timings) ≡ min (length checks) (length timings) = length-zip checks timings in omega arith

and_true : (a b : Bool) → b ≡ true → (a && b) ≡ a
and_true true b e = e
and_true false b e = refl

and_right : (a b : Bool) → (a && b) ≡ true → b ≡ true
and_right true b e = e
and_right false b e = absurd (cc)

-- the checks that take limits below 0
among-is : (scopes scope : ℕ) → scope < scopes → (w : Check × CheckTiming) → ((check_scope w == scope) && is_among scopes w) ≡ ((check_scope w == scope) && takes_lates w.1.kind)
among-is scopes scope l w = by (check_scope w == scope) refl
  where
    by : (b : Bool) → (check_scope w == scope) ≡ b → (b && is_among scopes w) ≡ (b && takes_lates w.1.kind)
    by true e = and_true (takes_lates w.1.kind) (nat_lt w.0.scope scopes) (let same : w.0.scope ≡ scope = eqb-true w.0.scope scope e in lt-ltb w.0.scope scopes (omega arith))
    by false e = refl

among-within : (scopes : ℕ) (ws : List (Check × CheckTiming)) → All (λ w. is_among scopes w ≡ true → check_scope w < scopes) ws
among-within scopes ws = λ i d l. within (slice_index_or ws i d)
  where
    within : (w : Check × CheckTiming) → is_among scopes w ≡ true → check_scope w < scopes
    within w e = ltb-true w.0.scope scopes (and_right (takes_lates w.1.kind) (nat_lt w.0.scope scopes) e)

pub windows-within : (scopes : ℕ) (ws : List (Check × CheckTiming)) (pins seen : List Pin) → pins ≡ pins_by check_scope (is_among scopes) 0 ws → seen ≡ pins → All (λ (p : Pin). p.net < scopes) seen
windows-within scopes ws pins seen e f = subst (λ ps. All (λ (p : Pin). p.net < scopes) ps) (sym (f ∙ e)) (pins-within check_scope (is_among scopes) scopes 0 ws (among-within scopes ws))

windows-are : (checks : List Check) (timings : List CheckTiming) (scopes : ℕ) (pins seen : List Pin) (table : List (List ℕ)) → pins ≡ pins_by check_scope (is_among scopes) 0 (zip checks timings) → seen ≡ pins → length table ≡ scopes → HasPins seen table
    → AreWindows checks timings table
windows-are checks timings scopes pins seen table e f many h = record {
  each = λ scope l. h.each scope l ∙ (ap (elements_on scope) (f ∙ e)
      ∙ (by-key check_scope (is_among scopes) (λ w. takes_lates w.1.kind) scope 0 (zip checks timings) (among-is scopes scope (subst (λ n. scope < n) many l))
      ∙ sym (map-mapped (λ (w : ℕ × CheckTiming). w.0) (λ (w : ℕ × (Check × CheckTiming)). (w.0, w.1.1)) (filter (is_window scope) (enumerate_from 0 (zip checks timings))))));
}

pub windows_are_ok : {E : Type 0} (checks : List Check) (timings : List CheckTiming) (scopes : ℕ) (pins seen : List Pin) (r : Result (List (List ℕ)) E) → pins ≡ pins_by check_scope (is_among scopes) 0 (zip checks timings) → seen ≡ pins
    → IfOk r (λ table. length table ≡ scopes) → IfOk r (λ table. HasPins seen table) → IfOk r (λ table. AreWindows checks timings table)
windows_are_ok checks timings scopes pins seen (Ok table) e f many h = windows-are checks timings scopes pins seen table e f many h
windows_are_ok checks timings scopes pins seen (Err why) e f many h = tt

-- Lates
late-among-is : (scopes scope : ℕ) → scope < scopes → (e : code_element.Element) → ((e.scope == scope) && is_late_among scopes e) ≡ ((e.scope == scope) && is_late_kind e.kind)
late-among-is scopes scope l e = by (e.scope == scope) refl
  where
    by : (b : Bool) → (e.scope == scope) ≡ b → (b && is_late_among scopes e) ≡ (b && is_late_kind e.kind)
    by true h = and_true (is_late_kind e.kind) (nat_lt e.scope scopes) (let same : e.scope ≡ scope = eqb-true e.scope scope h in lt-ltb e.scope scopes (omega arith))
    by false h = refl

late-among-within : (scopes : ℕ) (es : List code_element.Element) → All (λ e. is_late_among scopes e ≡ true → element_scope e < scopes) es
late-among-within scopes es = λ i d l. within (slice_index_or es i d)
  where
    within : (e : code_element.Element) → is_late_among scopes e ≡ true → element_scope e < scopes
    within e h = ltb-true e.scope scopes (and_right (is_late_kind e.kind) (nat_lt e.scope scopes) h)

pub lates-within : (scopes : ℕ) (es : List code_element.Element) (pins seen : List Pin) → pins ≡ pins_by element_scope (is_late_among scopes) 0 es → seen ≡ pins → All (λ (p : Pin). p.net < scopes) seen
lates-within scopes es pins seen e f = subst (λ ps. All (λ (p : Pin). p.net < scopes) ps) (sym (f ∙ e)) (pins-within element_scope (is_late_among scopes) scopes 0 es (late-among-within scopes es))

lates-are : (es : List code_element.Element) (scopes : ℕ) (pins seen : List Pin) (table : List (List ℕ)) → pins ≡ pins_by element_scope (is_late_among scopes) 0 es → seen ≡ pins → length table ≡ scopes → HasPins seen table → AreLates es table
lates-are es scopes pins seen table e f many h = record {
  each = λ scope l. h.each scope l ∙ (ap (elements_on scope) (f ∙ e)
      ∙ by-key element_scope (is_late_among scopes) (λ x. is_late_kind x.kind) scope 0 es (late-among-is scopes scope (subst (λ n. scope < n) many l)));
}

pub lates_are_ok : {E : Type 0} (es : List code_element.Element) (scopes : ℕ) (pins seen : List Pin) (r : Result (List (List ℕ)) E) → pins ≡ pins_by element_scope (is_late_among scopes) 0 es → seen ≡ pins → IfOk r (λ table. length table ≡ scopes)
    → IfOk r (λ table. HasPins seen table) → IfOk r (λ table. AreLates es table)
lates_are_ok es scopes pins seen (Ok table) e f many h = lates-are es scopes pins seen table e f many h
lates_are_ok es scopes pins seen (Err why) e f many h = tt
