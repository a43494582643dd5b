-- No fault stands in the items of a run's dump.
use Rattle.std.specs.Prelude.{◌≡◌, ℕ, ℤ, pos, ◌-ℤ◌, zero, suc, ◌+◌, ◌*◌, ◌%◌, ◌^◌, ◌<◌, ◌≤◌, ◌==◌, ◌&&◌, ◌||◌, not, nat_lt, nat_le, ◌-◌, Bool, true, false, cond, if◌then◌else◌, List, [], ◌∷◌, ◌++◌, length, map, filter, flat_map, decimal, drop, Some, is_some, refl}
use Rattle.std.specs.List.{AllByRecursion, list_any, prefix_len}
use Rattle.std.proofs.Common.{sym, ◌∙◌, ap, subst, arith, inr}
use Rattle.std.proofs.lemmas.Bool.{eq-eqb, le-ltb, lt-leb, not_from_true, or_left, or_right}
use Rattle.std.proofs.lemmas.List.{append-nil, append_assoc, length-append, length-drop, length-map}
use Rattle.std.proofs.lemmas.List.Folds.{list_any-append}
use Rattle.std.proofs.lemmas.Fmt.{length-decimal-le}
use Rattle.sg_logic.specs.declared.values.Value.{Value}
use Rattle.sg_model.specs.Machine.{Snapshot}
use Rattle.sg_model.specs.Time.{any_differs}
use Rattle.sg_model.specs.Values.{value_at}
use Rattle.sg_time.specs.Spelling.{number_from}
use Rattle.sg_time.specs.Ticks.{above, below}
use Rattle.sg_circuit.specs.Circuit.{Variable}
use Rattle.wave_out.specs.Vcd.{any_variable_differs, code, value_letter, values_at}
use Rattle.vcd_form.specs.Written.{Declaration, Item, instant, nothing, real, value}
use Rattle.vcd_model.specs.declared.kinds.VcdKind.{VcdKind}
use Rattle.vcd_model.specs.declared.kinds.VcdKind.TheVariants.{UnknownCode}
use Rattle.vcd_model.specs.Faults.{Header, code_faults, fault, fault_if, inputs_of, item_faults, length_faults, many_digits}
use Rattle.vcd_model.specs.Inputs.{input_of}
use Rattle.vcd_model.specs.Values.{is_of_code, is_too_large, is_whole, timed, Scale}
use Rattle.vcd_laws.proofs.Body.{shots}
use Rattle.vcd_laws.proofs.Entries.{declared_as}
use Rattle.vcd_laws.proofs.Header.{declared_one}
use Rattle.vcd_laws.proofs.Items.{Shown, end_items, ending_items, first_items, items_of, later_items, now_after, now_after-append, now_stays, numbered, shown, shown_with, some_item, value_item}
use Rattle.vcd_laws.proofs.Own.{code_itself, none_coded, numbered-append, one_coded, tops, unplaced_declaration}
use Rattle.vcd_laws.proofs.Waves.{unplaced}

-- ---- items without a fault

abbrev pub Clean : Header → ℕ → Item → Type 0
Clean h before nothing = Unit {0}
Clean h before (instant byte digits) =
    ((many_digits digits ≡ false) × (is_too_large h.scale (number_from 0 digits) ≡ false)) × ((is_whole h.scale (number_from 0 digits) ≡ true) × (nat_lt (number_from 0 digits) before ≡ false))
Clean h before (value byte code_byte bits code) = (list_any (is_of_code code) h.all ≡ true) × AllByRecursion (λ (d : Declaration). nat_lt d.width (length bits) ≡ false) (inputs_of h code)
Clean h before (real byte code_byte code) = ⊥

abbrev pub CleanAll : Header → ℕ → List Item → Type 0
CleanAll h now [] = Unit {0}
CleanAll h now (nothing ∷ is) = CleanAll h now is
CleanAll h now (instant byte digits ∷ is) = Clean h now (instant byte digits) × CleanAll h (number_from 0 digits) is
CleanAll h now (value byte code_byte bits code ∷ is) = Clean h now (value byte code_byte bits code) × CleanAll h now is
CleanAll h now (real byte code_byte code ∷ is) = ⊥

-- places don't matter
pub clean_unplaced : (h : Header) (now : ℕ) (items : List Item) → CleanAll h now (map unplaced items) → CleanAll h now items
clean_unplaced h now [] c = tt
clean_unplaced h now (nothing ∷ is) c = clean_unplaced h now is c
clean_unplaced h now (instant b digits ∷ is) c = (c.0, clean_unplaced h (number_from 0 digits) is c.1)
clean_unplaced h now (value b d bits code ∷ is) c = (c.0, clean_unplaced h now is c.1)
clean_unplaced h now (real b d code ∷ is) c = c

pub clean_append : (h : Header) (now : ℕ) (xs ys : List Item) → CleanAll h now xs → CleanAll h (now_after now xs) ys → CleanAll h now (xs ++ ys)
clean_append h now [] ys c k = k
clean_append h now (nothing ∷ xs) ys c k = clean_append h now xs ys c k
clean_append h now (instant b digits ∷ xs) ys c k = (c.0, clean_append h (number_from 0 digits) xs ys c.1 k)
clean_append h now (value b d bits code ∷ xs) ys c k = (c.0, clean_append h now xs ys c.1 k)
clean_append h now (real b d code ∷ xs) ys c k = absurd c

-- and so is a front of clean items
pub clean_front : (h : Header) (now : ℕ) (xs ys : List Item) → CleanAll h now (xs ++ ys) → CleanAll h now xs
clean_front h now [] ys c = tt
clean_front h now (nothing ∷ xs) ys c = clean_front h now xs ys c
clean_front h now (instant b digits ∷ xs) ys c = (c.0, clean_front h (number_from 0 digits) xs ys c.1)
clean_front h now (value b d bits code ∷ xs) ys c = (c.0, clean_front h now xs ys c.1)
clean_front h now (real b d code ∷ xs) ys c = c

none_append : {A : Type 0} (xs ys : List A) → xs ≡ [] → ys ≡ [] → xs ++ ys ≡ []
none_append xs ys e f = ap (λ zs. zs ++ ys) e ∙ f

fault_none : (b : Bool) (kind : VcdKind) (byte : ℕ) → b ≡ false → fault_if b kind byte ≡ []
fault_none b kind byte e = ap (λ t. fault_if t kind byte) e

short_enough : (byte : ℕ) (bits : List ℕ) (ds : List Declaration) → AllByRecursion (λ (d : Declaration). nat_lt d.width (length bits) ≡ false) ds → flat_map (length_faults byte bits) ds ≡ []
short_enough byte bits [] c = refl
short_enough byte bits (d ∷ ds) c = none_append (length_faults byte bits d) (flat_map (length_faults byte bits) ds) (fault_none _ _ byte c.0) (short_enough byte bits ds c.1)

-- clean items have no fault
pub clean_faults : (h : Header) (now : ℕ) (items : List Item) → CleanAll h now items → flat_map (item_faults h) (timed now items) ≡ []
clean_faults h now [] c = refl
clean_faults h now (nothing ∷ is) c = clean_faults h now is c
clean_faults h now (instant b digits ∷ is) c =
    none_append (item_faults h (now, instant b digits)) (flat_map (item_faults h) (timed (number_from 0 digits) is))
    (none_append (fault_if (many_digits digits) _ b) _ (fault_none (many_digits digits) _ b c.0.0.0)
    (none_append (fault_if (is_too_large h.scale (number_from 0 digits)) _ b) _ (fault_none (is_too_large h.scale (number_from 0 digits)) _ b c.0.0.1)
    (none_append (fault_if (not (is_whole h.scale (number_from 0 digits))) _ b) _ (fault_none (not (is_whole h.scale (number_from 0 digits))) _ b (not_from_true (is_whole h.scale (number_from 0 digits)) c.0.1.0))
    (fault_none (nat_lt (number_from 0 digits) now) _ b c.0.1.1))))
    (clean_faults h (number_from 0 digits) is c.1)
clean_faults h now (value b d bits code ∷ is) c =
    none_append (item_faults h (now, value b d bits code)) (flat_map (item_faults h) (timed now is))
    (none_append (code_faults h b d code) (flat_map (length_faults b bits) (inputs_of h code)) (ap (λ t. if t then [] else fault UnknownCode d ∷ (fault UnknownCode b ∷ [])) c.0.0) (short_enough b bits (inputs_of h code) c.0.1))
    (clean_faults h now is c.1)
clean_faults h now (real b d code ∷ is) c = absurd c

-- ---- what is known of the variables

pub record Known (h : Header) (k : ℕ) (v : Variable) : Type 0 where
  pub there : list_any (is_of_code (code k)) h.all ≡ true
  pub short : AllByRecursion (λ (d : Declaration). nat_lt d.width (length v.bits) ≡ false) (inputs_of h (code k))

abbrev pub EachKnown : Header → ℕ → List Variable → Type 0
EachKnown h k [] = Unit {0}
EachKnown h k (v ∷ vs) = Known h k v × EachKnown h (suc k) vs

clean_value : (h : Header) (now : ℕ) (values : List Value) (k : ℕ) (v : Variable) → Known h k v → CleanAll h now (value_item values k v)
clean_value h now values k v known =
    ((known.there, subst (λ n. AllByRecursion (λ (d : Declaration). nat_lt d.width n ≡ false) (inputs_of h (code k))) (sym (length-map (values_at v.bits values) value_letter ∙ length-map v.bits (value_at values))) known.short), tt)

clean_values : (h : Header) (now : ℕ) (test : Variable → Bool) (values : List Value) (k : ℕ) (vs : List Variable) → EachKnown h k vs → CleanAll h now (numbered (some_item test values) k vs)
clean_values h now test values k [] known = tt
clean_values h now test values k (v ∷ vs) known = clean_append h now (some_item test values k v) (numbered (some_item test values) (suc k) vs) (at (test v)) (subst (λ t. CleanAll h t (numbered (some_item test values) (suc k) vs)) (sym (stays (test v))) (clean_values h now test values (suc k) vs known.1))
  where
    at : (b : Bool) → CleanAll h now (if b then value_item values k v else [])
    at true = clean_value h now values k v known.0
    at false = tt

    stays : (b : Bool) → now_after now (if b then value_item values k v else []) ≡ now
    stays true = refl
    stays false = refl

-- ---- times

abbrev IsPlainScale : Scale → Type 0
IsPlainScale scale = scale.unit -ℤ scale.tick ≡ pos 0

not_large : (difference : ℤ) (t : ℕ) → difference ≡ pos 0 → t < 2 ^ 60 → nat_le (2 ^ 60 * 10 ^ below difference) (t * 10 ^ above difference) ≡ false
not_large difference t e l = ap (λ (z : ℤ). nat_le (2 ^ 60 * 10 ^ below z) (t * 10 ^ above z)) e ∙ lt-leb (2 ^ 60 * 1) (t * 1) (omega arith)

whole : (difference : ℤ) (t : ℕ) → difference ≡ pos 0 → (((t * 10 ^ above difference) % 10 ^ below difference) == 0) ≡ true
whole difference t e = ap (λ (z : ℤ). ((t * 10 ^ above z) % 10 ^ below z) == 0) e ∙ eq-eqb ((t * 1) % 1) 0 (omega arith)

few_digits : (t : ℕ) → t < 2 ^ 60 → many_digits (decimal t) ≡ false
few_digits t l =
    let long : length (decimal t) ≤ 19 = length-decimal-le 19 t (omega arith) (omega arith) (omega arith) in
    let n : ℕ = prefix_len (λ b. b == 48) (decimal t) in
    let q : length (drop n (decimal t)) ≡ length (decimal t) - n = length-drop n (decimal t) in
    le-ltb 19 (length (drop n (decimal t))) (omega arith)

pub clean_time : (h : Header) (before t : ℕ) → IsPlainScale h.scale → t < 2 ^ 60 → number_from 0 (decimal t) ≡ t → before ≤ t → Clean h before (instant 0 (decimal t))
clean_time h before t scale l digits b =
    ((few_digits t l, ap (is_too_large h.scale) digits ∙ not_large (h.scale.unit -ℤ h.scale.tick) t scale l), (ap (is_whole h.scale) digits ∙ whole (h.scale.unit -ℤ h.scale.tick) t scale, ap (λ n. nat_lt n before) digits ∙ le-ltb t before b))

-- ---- the items of a run

pub record CleanUpto (h : Header) (t : ℕ) (d : Shown) : Type 0 where
  pub clean : CleanAll h 0 d.items
  pub now : now_after 0 d.items ≡ d.time
  pub time : d.time ≤ t

pub record CleanShown (h : Header) (vs : List Variable) (nets : ℕ → List Value) (t : ℕ) : Type 0 where
  pub shown_as : Shown
  pub is : shown vs (shots nets (suc t)) ≡ Some shown_as
  pub upto : CleanUpto h t shown_as

later_clean : (h : Header) (before : ℕ) (vs : List Variable) (old : List Value) (s : Snapshot) → EachKnown h 0 vs → IsPlainScale h.scale → s.time < 2 ^ 60 → number_from 0 (decimal s.time) ≡ s.time → before ≤ s.time → CleanAll h before (later_items vs old s)
later_clean h before vs old s known scale l digits b = (clean_time h before s.time scale l digits b, clean_values h (number_from 0 (decimal s.time)) (λ v. any_differs old s.values v.bits) s.values 0 vs known)

first_clean : (h : Header) (vs : List Variable) (s : Snapshot) → EachKnown h 0 vs → IsPlainScale h.scale → s.time < 2 ^ 60 → number_from 0 (decimal s.time) ≡ s.time → CleanAll h 0 (first_items vs s)
first_clean h vs s known scale l digits = (
  clean_time h 0 s.time scale l digits (omega arith),
  clean_append h (number_from 0 (decimal s.time)) (numbered (value_item s.values) 0 vs) (nothing ∷ []) (clean_values h (number_from 0 (decimal s.time)) (λ v. true) s.values 0 vs known) tt,
)

later_now : (now : ℕ) (vs : List Variable) (old : List Value) (s : Snapshot) → number_from 0 (decimal s.time) ≡ s.time → now_after now (later_items vs old s) ≡ s.time
later_now now vs old s digits = now_stays (number_from 0 (decimal s.time)) (λ v. any_differs old s.values v.bits) s.values 0 vs ∙ digits

first_now : (vs : List Variable) (s : Snapshot) → number_from 0 (decimal s.time) ≡ s.time → now_after 0 (first_items vs s) ≡ s.time
first_now vs s digits = now_after-append (number_from 0 (decimal s.time)) (numbered (value_item s.values) 0 vs) (nothing ∷ []) ∙ (now_stays (number_from 0 (decimal s.time)) (λ v. true) s.values 0 vs ∙ digits)

pub clean_shown : (h : Header) (vs : List Variable) (nets : ℕ → List Value) (t end : ℕ) → t ≤ end → end < 2 ^ 60 → EachKnown h 0 vs → IsPlainScale h.scale → ((u : ℕ) → u ≤ end → number_from 0 (decimal u) ≡ u) → CleanShown h vs nets t
clean_shown h vs nets zero end l m known scale digits =
    let s : Snapshot = record { time = 0; values = nets 1 } in
    record {
      shown_as = record { items = first_items vs s; time = 0; values = nets 1 };
      is = refl;
      upto = record { clean = first_clean h vs s known scale (omega arith) (digits 0 (omega arith)); now = first_now vs s (digits 0 (omega arith)); time = omega arith };
    }
clean_shown h vs nets (suc t) end l m known scale digits =
    let before = clean_shown h vs nets t end (omega arith) m known scale digits in
    at before.shown_as before.upto before.is (any_variable_differs vs before.shown_as.values (nets (suc (suc t)))) refl
  where
    s : Snapshot
    s = record { time = suc t; values = nets (suc (suc t)) }

    at : (d : Shown) → CleanUpto h t d → shown vs (shots nets (suc t)) ≡ Some d → (b : Bool) → any_variable_differs vs d.values (nets (suc (suc t))) ≡ b → CleanShown h vs nets (suc t)
    at d c is true e = record {
      shown_as = record { items = d.items ++ later_items vs d.values s; time = suc t; values = nets (suc (suc t)) };
      is = ap (shown_with vs s) is ∙ ap (λ b. if b then Some (record { items = d.items ++ later_items vs d.values s; time = suc t; values = nets (suc (suc t)) }) else Some d) e;
      upto = record {
        clean = clean_append h 0 d.items (later_items vs d.values s) c.clean (subst (λ n. CleanAll h n (later_items vs d.values s)) (sym c.now) (later_clean h d.time vs d.values s known scale (omega arith) (digits (suc t) l) (let q : d.time ≤ t = c.time in omega arith)));
        now = now_after-append 0 d.items (later_items vs d.values s) ∙ later_now (now_after 0 d.items) vs d.values s (digits (suc t) l);
        time = omega arith;
      };
    }
    at d c is false e = record {
      shown_as = d;
      is = ap (shown_with vs s) is ∙ ap (λ b. if b then Some (record { items = d.items ++ later_items vs d.values s; time = suc t; values = nets (suc (suc t)) }) else Some d) e;
      upto = record { clean = c.clean; now = c.now; time = (let q : d.time ≤ t = c.time in omega arith) };
    }

pub clean_items : (h : Header) (vs : List Variable) (nets : ℕ → List Value) (end : ℕ) → end < 2 ^ 60 → EachKnown h 0 vs → IsPlainScale h.scale → ((u : ℕ) → u ≤ end → number_from 0 (decimal u) ≡ u)
    → CleanAll h 0 (items_of (shown vs (shots nets (suc end))) ++ ending_items end (shown vs (shots nets (suc end))))
clean_items h vs nets end m known scale digits =
    let s = clean_shown h vs nets end end (omega arith) m known scale digits in
    subst (λ o. CleanAll h 0 (items_of o ++ ending_items end o)) (sym s.is) (at s.shown_as s.upto)
  where
    last : (d : Shown) → d.time ≤ end → (b : Bool) → CleanAll h d.time (if b then [] else instant 0 (decimal end) ∷ [])
    last d l true = tt
    last d l false = (clean_time h d.time end scale m (digits end (omega arith)) l, tt)

    at : (d : Shown) → CleanUpto h end d → CleanAll h 0 (d.items ++ end_items end d)
    at d c = clean_append h 0 d.items (end_items end d) c.clean (subst (λ n. CleanAll h n (end_items end d)) (sym c.now) (last d c.time (d.time == end)))

-- ---- the header knows the variables

any_unplaced : (code : List ℕ) (ds : List Declaration) → list_any (is_of_code code) (map unplaced_declaration ds) ≡ list_any (is_of_code code) ds
any_unplaced code [] = refl
any_unplaced code (d ∷ ds) = ap (λ b. is_of_code code d || b) (any_unplaced code ds)

-- of those with a code and more, what is so of those with the code
more_asked : (P : Declaration → Type 0) (code : List ℕ) (test : Declaration → Bool) (ds : List Declaration) → ((d : Declaration) → P (unplaced_declaration d) → P d)
    → AllByRecursion P (filter (is_of_code code) (map unplaced_declaration ds)) → AllByRecursion P (filter (λ d. is_of_code code d && test d) ds)
more_asked P code test [] u h = tt
more_asked P code test (d ∷ ds) u h = at (is_of_code code d) (test d) h (λ k. more_asked P code test ds u k)
  where
    at : (b c : Bool) → AllByRecursion P (cond b (unplaced_declaration d ∷ filter (is_of_code code) (map unplaced_declaration ds)) (filter (is_of_code code) (map unplaced_declaration ds)))
        → (AllByRecursion P (filter (is_of_code code) (map unplaced_declaration ds)) → AllByRecursion P (filter (λ x. is_of_code code x && test x) ds))
        → AllByRecursion P (cond (b && c) (d ∷ filter (λ x. is_of_code code x && test x) ds) (filter (λ x. is_of_code code x && test x) ds))
    at true true k rest = (u d k.0, rest k.1)
    at true false k rest = rest k.1
    at false c k rest = rest k

code_there : (vs before after : List Variable) (v : Variable) → vs ≡ before ++ v ∷ after → list_any (is_of_code (code (length before))) (numbered declared_one 0 vs) ≡ true
code_there vs before after v e =
    ap (λ xs. list_any (is_of_code (code k)) (numbered declared_one 0 xs)) e
    ∙ (ap (list_any (is_of_code (code k))) (numbered-append declared_one 0 before (v ∷ after))
    ∙ (list_any-append (is_of_code (code k)) (numbered declared_one 0 before) (numbered declared_one (0 + k) (v ∷ after))
    ∙ or_right (list_any (is_of_code (code k)) (numbered declared_one 0 before)) (list_any (is_of_code (code k)) (numbered declared_one (0 + k) (v ∷ after)))
    (ap (λ n. list_any (is_of_code (code k)) (numbered declared_one n (v ∷ after))) (let q : 0 + k ≡ k = omega arith in q) ∙ or_left (is_of_code (code k) (declared_as k v)) (list_any (is_of_code (code k)) (numbered declared_one (suc k) after)) (code_itself k))))
  where
    k : ℕ
    k = length before

-- the header declares all variables, and in the top's scope the top's
pub record Declares (h : Header) (rest : List Variable) : Type 0 where
  pub all_are : map unplaced_declaration h.all ≡ numbered declared_one 0 (tops h.circuit ++ rest)
  pub own_are : map unplaced_declaration h.own ≡ numbered declared_one 0 (tops h.circuit)

known_at : (h : Header) (rest before after : List Variable) (v : Variable) → Declares h rest → tops h.circuit ++ rest ≡ before ++ v ∷ after
    → AllByRecursion (λ (d : Declaration). nat_lt d.width (length v.bits) ≡ false) (filter (is_of_code (code (length before))) (numbered declared_one 0 (tops h.circuit))) → Known h (length before) v
known_at h rest before after v d e short = record {
  there = sym (any_unplaced (code (length before)) h.all) ∙ (ap (list_any (is_of_code (code (length before)))) d.all_are ∙ code_there (tops h.circuit ++ rest) before after v e);
  short = more_asked (λ (x : Declaration). nat_lt x.width (length v.bits) ≡ false) (code (length before)) (λ x. is_some (input_of h.circuit x)) h.own (λ x k. k)
      (subst (λ ds. AllByRecursion (λ (x : Declaration). nat_lt x.width (length v.bits) ≡ false) (filter (is_of_code (code (length before))) ds)) (sym d.own_are) short);
}

longer : (xs : List Variable) (x : Variable) → length (xs ++ x ∷ []) ≡ suc (length xs)
longer xs x = (let q : length (xs ++ x ∷ []) ≡ length xs + 1 = length-append xs (x ∷ []) in omega arith)

rest_known : (h : Header) (rest before vs : List Variable) → Declares h rest → tops h.circuit ++ rest ≡ before ++ vs → length (tops h.circuit) ≤ length before → EachKnown h (length before) vs
rest_known h rest before [] d e l = tt
rest_known h rest before (v ∷ vs) d e l =
    let more : length (before ++ v ∷ []) ≡ suc (length before) = longer before v in (
      known_at h rest before vs v d e (subst (AllByRecursion (λ (x : Declaration). nat_lt x.width (length v.bits) ≡ false)) (sym (none_coded 0 (length before) (tops h.circuit) (inr (omega arith)))) tt),
      subst (λ n. EachKnown h n vs) more (rest_known h rest (before ++ v ∷ []) vs d (e ∙ sym (append_assoc before (v ∷ []) vs)) (omega arith)),
    )

tops_known : (h : Header) (rest before vs : List Variable) → Declares h rest → tops h.circuit ≡ before ++ vs → EachKnown h (length before) (vs ++ rest)
tops_known h rest before [] d e =
    let all : before ≡ tops h.circuit = sym (append-nil before) ∙ sym e in
    rest_known h rest before rest d (ap (λ xs. xs ++ rest) (sym all)) (subst (λ xs. length xs ≤ length before) all (omega arith))
tops_known h rest before (v ∷ vs) d e =
    let more : length (before ++ v ∷ []) ≡ suc (length before) = longer before v in (
      known_at h rest before (vs ++ rest) v d (ap (λ xs. xs ++ rest) e ∙ append_assoc before (v ∷ vs) rest) (subst (AllByRecursion (λ (x : Declaration). nat_lt x.width (length v.bits) ≡ false)) (sym (one_coded (tops h.circuit) before vs v e)) (le-ltb (length v.bits) (length v.bits) (omega arith), tt)),
      subst (λ n. EachKnown h n (vs ++ rest)) more (tops_known h rest (before ++ v ∷ []) vs d (e ∙ sym (append_assoc before (v ∷ []) vs))),
    )

pub each_known : (h : Header) (rest : List Variable) → Declares h rest → EachKnown h 0 (tops h.circuit ++ rest)
each_known h rest d = tops_known h rest [] (tops h.circuit) d refl
