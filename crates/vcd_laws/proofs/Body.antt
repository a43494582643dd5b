-- What the items of a run's dump give, time by time.
use Rattle.std.specs.Prelude.{◌≡◌, ◌≢◌, ℕ, zero, suc, ◌<◌, ◌≤◌, ◌==◌, ◌⊎◌, Bool, true, false, if◌then◌else◌, List, [], ◌∷◌, ◌++◌, map, decimal, Some, refl}
use Rattle.std.specs.List.{AllByRecursion, list_any}
use Rattle.std.proofs.Common.{sym, ◌∙◌, ap, subst, arith, inl, inr}
use Rattle.std.proofs.lemmas.Bool.{cases_eq, ne_eqb, or_from, or_left, or_parts, or_right}
use Rattle.std.proofs.lemmas.List.{append-nil}
use Rattle.std.proofs.lemmas.List.Folds.{list_any-append}
use Rattle.sg_logic.specs.declared.values.Value.{Value}
use Rattle.sg_logic.specs.Values.{is_same}
use Rattle.sg_model.specs.Values.{value_at}
use Rattle.sg_model.specs.Machine.{Snapshot}
use Rattle.sg_model.specs.Time.{any_differs}
use Rattle.sg_model.proofs.PlacedLaws.{same-true}
use Rattle.sg_time.specs.Spelling.{number_from}
use Rattle.sg_circuit.specs.Circuit.{Circuit, Variable}
use Rattle.sg_stimulus.specs.Applied.{IsInput}
use Rattle.wave_out.specs.Vcd.{any_variable_differs}
use Rattle.vcd_form.specs.Written.{Declaration, nothing}
use Rattle.vcd_model.specs.Stimulus.{is_given}
use Rattle.vcd_model.specs.Values.{Given}
use Rattle.run_laws.specs.Inputs.{Changes}
use Rattle.vcd_laws.proofs.Items.{EachRead, HasReader, Right, Shown, all_append, bit_differs, change_item, first_items, given_from, given_from-append, later_items, none_or_change, now_after, now_after-append, now_stays, numbered, reader_given, shown, shown_with, value_item, values_right}
use Rattle.vcd_laws.proofs.Steps.{ClimbsFrom, GivesAt}

-- ---- lists

all_weaker : {A : Type 0} (P Q : A → Type 0) (xs : List A) → ((x : A) → P x → Q x) → AllByRecursion P xs → AllByRecursion Q xs
all_weaker P Q [] f h = tt
all_weaker P Q (x ∷ xs) f h = (f x h.0, all_weaker P Q xs f h.1)

climbs_one : (low time : ℕ) (gs : List Given) → low ≤ time → AllByRecursion (λ (g : Given). g.time ≡ time) gs → ClimbsFrom low (map (λ (g : Given). g.time) gs)
climbs_one low time [] l h = tt
climbs_one low time (g ∷ gs) l h = (subst (λ t. low ≤ t) (sym h.0) l, climbs_one g.time time gs (let q : g.time ≡ time = h.0 in omega arith) h.1)

climbs_append : (low time : ℕ) (xs ys : List Given) → low ≤ time → ClimbsFrom low (map (λ (g : Given). g.time) xs) → AllByRecursion (λ (g : Given). g.time ≤ time) xs → AllByRecursion (λ (g : Given). g.time ≡ time) ys
    → ClimbsFrom low (map (λ (g : Given). g.time) (xs ++ ys))
climbs_append low time [] ys l c h k = climbs_one low time ys l k
climbs_append low time (x ∷ xs) ys l c h k = (c.0, climbs_append x.time time xs ys h.0 c.1 h.1 k)

none_at : (time bound : ℕ) (gs : List Given) → bound < time → AllByRecursion (λ (g : Given). g.time ≤ bound) gs → list_any (λ (g : Given). g.time == time) gs ≡ false
none_at time bound [] l h = refl
none_at time bound (g ∷ gs) l h = or_from (g.time == time) (list_any (λ (x : Given). x.time == time) gs) (ne_eqb g.time time (λ e. (let k : g.time ≤ bound = h.0 in absurd (omega arith)))) (none_at time bound gs l h.1)

none_of : (time other : ℕ) (gs : List Given) → other ≢ time → AllByRecursion (λ (g : Given). g.time ≡ other) gs → list_any (λ (g : Given). g.time == time) gs ≡ false
none_of time other [] l h = refl
none_of time other (g ∷ gs) l h = or_from (g.time == time) (list_any (λ (x : Given). x.time == time) gs) (ne_eqb g.time time (λ e. l (sym h.0 ∙ e))) (none_of time other gs l h.1)

-- ---- the snapshots of a run, by its nets after so many times

abbrev pub shots : (ℕ → List Value) → ℕ → List Snapshot
shots nets zero = []
shots nets (suc t) = record { time = t; values = nets (suc t) } ∷ shots nets t

-- what the items up to a time give
pub record Upto (circuit : Circuit) (ds : List Declaration) (nets : ℕ → List Value) (t : ℕ) (d : Shown) : Type 0 where
  pub time : d.time ≤ t
  pub now : now_after 0 d.items ≡ d.time
  pub climbs : ClimbsFrom 0 (map (λ (g : Given). g.time) (given_from circuit ds 0 d.items))
  pub within : AllByRecursion (λ (g : Given). g.time ≤ d.time) (given_from circuit ds 0 d.items)
  pub inputs : AllByRecursion (λ (g : Given). IsInput circuit g.net) (given_from circuit ds 0 d.items)
  pub agree : (net : ℕ) → IsInput circuit net → value_at d.values net ≡ value_at (nets (suc t)) net
  pub gives : (u : ℕ) → u ≤ t → GivesAt circuit (nets u) (nets (suc u)) u (given_from circuit ds 0 d.items)
  pub needed : (u : ℕ) → 0 < u → u ≤ t → (list_any (λ (g : Given). g.time == u) (given_from circuit ds 0 d.items) ≡ false) ⊎ Changes circuit (nets u) (nets (suc u))

-- ---- the blocks

first_given : (circuit : Circuit) (ds : List Declaration) (vs : List Variable) (s : Snapshot) → number_from 0 (decimal s.time) ≡ s.time → given_from circuit ds 0 (first_items vs s) ≡ given_from circuit ds s.time (numbered (value_item s.values) 0 vs)
first_given circuit ds vs s digits =
    ap (λ t. given_from circuit ds t (numbered (value_item s.values) 0 vs ++ nothing ∷ [])) digits
    ∙ (given_from-append circuit ds s.time (numbered (value_item s.values) 0 vs) (nothing ∷ []) ∙ append-nil (given_from circuit ds s.time (numbered (value_item s.values) 0 vs)))

first_now : (vs : List Variable) (s : Snapshot) → number_from 0 (decimal s.time) ≡ s.time → now_after 0 (first_items vs s) ≡ s.time
first_now vs s digits =
    now_after-append (number_from 0 (decimal s.time)) (numbered (value_item s.values) 0 vs) (nothing ∷ []) ∙ (now_stays (number_from 0 (decimal s.time)) (λ v. true) s.values 0 vs ∙ digits)

later_given : (circuit : Circuit) (ds : List Declaration) (now : ℕ) (vs : List Variable) (old : List Value) (s : Snapshot) → number_from 0 (decimal s.time) ≡ s.time
    → given_from circuit ds now (later_items vs old s) ≡ given_from circuit ds s.time (numbered (change_item old s.values) 0 vs)
later_given circuit ds now vs old s digits = ap (λ t. given_from circuit ds t (numbered (change_item old s.values) 0 vs)) digits

later_now : (now : ℕ) (vs : List Variable) (old : List Value) (s : Snapshot) → number_from 0 (decimal s.time) ≡ s.time → now_after now (later_items vs old s) ≡ s.time
later_now now vs old s digits = now_stays (number_from 0 (decimal s.time)) (λ v. any_differs old s.values v.bits) s.values 0 vs ∙ digits

-- a net of a variable that is read doesn't differ where none does
reader_same : (circuit : Circuit) (ds : List Declaration) (net k : ℕ) (vs : List Variable) (old new : List Value) → HasReader circuit ds net k vs → any_variable_differs vs old new ≡ false → value_at old net ≡ value_at new net
reader_same circuit ds net k [] old new h e = absurd h
reader_same circuit ds net k (v ∷ vs) old new (inl r) e =
    let f : any_differs old new v.bits ≡ false = (or_parts (any_differs old new v.bits) (any_variable_differs vs old new) e).0 in
    same-true (value_at old net) (value_at new net) (at (is_same (value_at old net) (value_at new net)) refl f)
  where
    at : (b : Bool) → is_same (value_at old net) (value_at new net) ≡ b → any_differs old new v.bits ≡ false → is_same (value_at old net) (value_at new net) ≡ true
    at true q f = q
    at false q f = absurd (let z : true ≡ false = sym (bit_differs old new net v.bits q r.1) ∙ f in cc)
reader_same circuit ds net k (v ∷ vs) old new (inr r) e = reader_same circuit ds net (suc k) vs old new r (or_parts (any_differs old new v.bits) (any_variable_differs vs old new) e).1

-- at time 0
upto_first : (circuit : Circuit) (ds : List Declaration) (vs : List Variable) (nets : ℕ → List Value) → EachRead circuit ds 0 vs → ((net : ℕ) → IsInput circuit net → HasReader circuit ds net 0 vs) → number_from 0 (decimal 0) ≡ 0
    → Upto circuit ds nets 0 (record { items = first_items vs (record { time = 0; values = nets 1 }); time = 0; values = nets 1 })
upto_first circuit ds vs nets reads covers digits = record {
  time = omega arith;
  now = first_now vs s digits;
  climbs = climbs_one 0 0 gs (omega arith) (all_weaker (Right circuit 0 (nets 1)) (λ (g : Given). g.time ≡ 0) gs (λ g r. r.0) right);
  within = all_weaker (Right circuit 0 (nets 1)) (λ (g : Given). g.time ≤ 0) gs (λ g r. subst (λ t. t ≤ 0) (sym r.0) (omega arith)) right;
  inputs = all_weaker (Right circuit 0 (nets 1)) (λ (g : Given). IsInput circuit g.net) gs (λ g r. r.1.0) right;
  agree = λ net i. refl;
  gives = λ u l.
      (let z : 0 ≡ u = omega arith in
      subst (λ t. GivesAt circuit (nets t) (nets (suc t)) t gs) z (record {
        right = all_weaker (Right circuit 0 (nets 1)) (λ (g : Given). g.time ≡ 0 → IsInput circuit g.net × (g.value ≡ value_at (nets 1) g.net)) gs (λ g r e. r.1) right;
        each = λ net i. inr (ap (list_any (is_given 0 net)) is ∙ reader_given circuit ds 0 net (λ v. true) (nets 1) 0 vs (λ v e. refl) (covers net i));
      }));
  needed = λ u p l. absurd (omega arith);
}
  where
    s : Snapshot
    s = record { time = 0; values = nets 1 }

    gs : List Given
    gs = given_from circuit ds 0 (first_items vs s)

    is : gs ≡ given_from circuit ds 0 (numbered (value_item (nets 1)) 0 vs)
    is = first_given circuit ds vs s digits

    right : AllByRecursion (Right circuit 0 (nets 1)) gs
    right = subst (AllByRecursion (Right circuit 0 (nets 1))) (sym is) (values_right circuit ds 0 (λ v. true) (nets 1) 0 vs reads)

-- at a time whose variables are all as they were written
upto_same : (circuit : Circuit) (ds : List Declaration) (vs : List Variable) (nets : ℕ → List Value) (t : ℕ) (d : Shown) → ((net : ℕ) → IsInput circuit net → HasReader circuit ds net 0 vs) → Upto circuit ds nets t d
    → any_variable_differs vs d.values (nets (suc (suc t))) ≡ false → Upto circuit ds nets (suc t) d
upto_same circuit ds vs nets t d covers h e = record {
  time = (let l : d.time ≤ t = h.time in omega arith);
  now = h.now;
  climbs = h.climbs;
  within = h.within;
  inputs = h.inputs;
  agree = same;
  gives = λ u l. elim (cases_eq u (suc t)) [
    | inl q ↦ subst (λ x. GivesAt circuit (nets x) (nets (suc x)) x gs) (sym q) (record {
      right = all_weaker (λ (g : Given). g.time ≤ d.time) (λ (g : Given). g.time ≡ suc t → IsInput circuit g.net × (g.value ≡ value_at (nets (suc (suc t))) g.net)) gs
          (λ g k f. (let m : d.time ≤ t = h.time in absurd (omega arith))) h.within;
      each = λ net i. inl (sym (same net i) ∙ h.agree net i);
    })
    | inr q ↦ h.gives u (omega arith)
  ];
  needed = λ u p l. elim (cases_eq u (suc t)) [
    | inl q ↦ inl (none_at u d.time gs (let m : d.time ≤ t = h.time in omega arith) h.within)
    | inr q ↦ h.needed u p (omega arith)
  ];
}
  where
    gs : List Given
    gs = given_from circuit ds 0 d.items

    same : (net : ℕ) → IsInput circuit net → value_at d.values net ≡ value_at (nets (suc (suc t))) net
    same net i = reader_same circuit ds net 0 vs d.values (nets (suc (suc t))) (covers net i) e

-- at a time that is written
upto_more : (circuit : Circuit) (ds : List Declaration) (vs : List Variable) (nets : ℕ → List Value) (t : ℕ) (d : Shown) → EachRead circuit ds 0 vs → ((net : ℕ) → IsInput circuit net → HasReader circuit ds net 0 vs) → number_from 0 (decimal (suc t)) ≡ suc t
    → Upto circuit ds nets t d
    → Upto circuit ds nets (suc t) (record { items = d.items ++ later_items vs d.values (record { time = suc t; values = nets (suc (suc t)) }); time = suc t; values = nets (suc (suc t)) })
upto_more circuit ds vs nets t d reads covers digits h = record {
  time = omega arith;
  now = now_after-append 0 d.items (later_items vs d.values s) ∙ later_now (now_after 0 d.items) vs d.values s digits;
  climbs = subst (λ gs. ClimbsFrom 0 (map (λ (g : Given). g.time) gs)) (sym is) (climbs_append 0 (suc t) old new (omega arith) h.climbs (all_weaker (λ (g : Given). g.time ≤ d.time) (λ (g : Given). g.time ≤ suc t) old (λ g k. later g.time k) h.within) times);
  within = subst (AllByRecursion (λ (g : Given). g.time ≤ suc t)) (sym is)
      (all_append (λ (g : Given). g.time ≤ suc t) old new (all_weaker (λ (g : Given). g.time ≤ d.time) (λ (g : Given). g.time ≤ suc t) old (λ g k. later g.time k) h.within)
      (all_weaker (λ (g : Given). g.time ≡ suc t) (λ (g : Given). g.time ≤ suc t) new (λ g k. (let q : g.time ≡ suc t = k in omega arith)) times));
  inputs = subst (AllByRecursion (λ (g : Given). IsInput circuit g.net)) (sym is)
      (all_append (λ (g : Given). IsInput circuit g.net) old new h.inputs (all_weaker (Right circuit (suc t) values) (λ (g : Given). IsInput circuit g.net) new (λ g r. r.1.0) right));
  agree = λ net i. refl;
  gives = λ u l. subst (λ gs. GivesAt circuit (nets u) (nets (suc u)) u gs) (sym is) (elim (cases_eq u (suc t)) [
    | inl q ↦ subst (λ x. GivesAt circuit (nets x) (nets (suc x)) x (old ++ new)) (sym q) now_gives
    | inr q ↦ old_gives u (omega arith)
  ]);
  needed = λ u p l. subst (λ gs. (list_any (λ (g : Given). g.time == u) gs ≡ false) ⊎ Changes circuit (nets u) (nets (suc u))) (sym is) (elim (cases_eq u (suc t)) [
    | inl q ↦ subst (λ x. (list_any (λ (g : Given). g.time == x) (old ++ new) ≡ false) ⊎ Changes circuit (nets x) (nets (suc x))) (sym q) now_needed
    | inr q ↦ old_needed u (omega arith) (h.needed u p (omega arith))
  ]);
}
  where
    values : List Value
    values = nets (suc (suc t))

    s : Snapshot
    s = record { time = suc t; values = values }

    old : List Given
    old = given_from circuit ds 0 d.items

    new : List Given
    new = given_from circuit ds (suc t) (numbered (change_item d.values values) 0 vs)

    is : given_from circuit ds 0 (d.items ++ later_items vs d.values s) ≡ old ++ new
    is = given_from-append circuit ds 0 d.items (later_items vs d.values s) ∙ ap (λ gs. old ++ gs) (later_given circuit ds (now_after 0 d.items) vs d.values s digits)

    later : (n : ℕ) → n ≤ d.time → n ≤ suc t
    later n k = (let m : d.time ≤ t = h.time in omega arith)

    right : AllByRecursion (Right circuit (suc t) values) new
    right = values_right circuit ds (suc t) (λ v. any_differs d.values values v.bits) values 0 vs reads

    times : AllByRecursion (λ (g : Given). g.time ≡ suc t) new
    times = all_weaker (Right circuit (suc t) values) (λ (g : Given). g.time ≡ suc t) new (λ g r. r.0) right

    each_now : (net : ℕ) → IsInput circuit net → (b : Bool) → is_same (value_at d.values net) (value_at values net) ≡ b → (value_at values net ≡ value_at (nets (suc t)) net) ⊎ (list_any (is_given (suc t) net) (old ++ new) ≡ true)
    each_now net i true e = inl (sym (same-true (value_at d.values net) (value_at values net) e) ∙ h.agree net i)
    each_now net i false e =
        inr (list_any-append (is_given (suc t) net) old new ∙ or_right (list_any (is_given (suc t) net) old) (list_any (is_given (suc t) net) new)
        (reader_given circuit ds (suc t) net (λ v. any_differs d.values values v.bits) values 0 vs (λ v k. bit_differs d.values values net v.bits e k) (covers net i)))

    now_gives : GivesAt circuit (nets (suc t)) values (suc t) (old ++ new)
    now_gives = record {
      right = all_append (λ (g : Given). g.time ≡ suc t → IsInput circuit g.net × (g.value ≡ value_at values g.net)) old new
          (all_weaker (λ (g : Given). g.time ≤ d.time) (λ (g : Given). g.time ≡ suc t → IsInput circuit g.net × (g.value ≡ value_at values g.net)) old (λ g k f. (let m : d.time ≤ t = h.time in absurd (omega arith))) h.within)
          (all_weaker (Right circuit (suc t) values) (λ (g : Given). g.time ≡ suc t → IsInput circuit g.net × (g.value ≡ value_at values g.net)) new (λ g r f. r.1) right);
      each = λ net i. each_now net i (is_same (value_at d.values net) (value_at values net)) refl;
    }

    old_each : (u net : ℕ) → (value_at (nets (suc u)) net ≡ value_at (nets u) net) ⊎ (list_any (is_given u net) old ≡ true) → (value_at (nets (suc u)) net ≡ value_at (nets u) net) ⊎ (list_any (is_given u net) (old ++ new) ≡ true)
    old_each u net (inl same) = inl same
    old_each u net (inr given) = inr (list_any-append (is_given u net) old new ∙ or_left (list_any (is_given u net) old) (list_any (is_given u net) new) given)

    old_gives : (u : ℕ) → u ≤ t → GivesAt circuit (nets u) (nets (suc u)) u (old ++ new)
    old_gives u l = record {
      right = all_append (λ (g : Given). g.time ≡ u → IsInput circuit g.net × (g.value ≡ value_at (nets (suc u)) g.net)) old new (h.gives u l).right
          (all_weaker (λ (g : Given). g.time ≡ suc t) (λ (g : Given). g.time ≡ u → IsInput circuit g.net × (g.value ≡ value_at (nets (suc u)) g.net)) new (λ g k f. (let q : u ≡ suc t = sym f ∙ k in absurd (omega arith))) times);
      each = λ net i. old_each u net ((h.gives u l).each net i);
    }

    -- a net that differs from what was written differs from what was before
    carried : Changes circuit d.values values → Changes circuit (nets (suc t)) values
    carried c = record { net = c.net; input = c.input; differs = λ same. c.differs (same ∙ sym (h.agree c.net c.input)) }

    empty_now : (new ≡ []) ⊎ Changes circuit d.values values → (list_any (λ (g : Given). g.time == suc t) (old ++ new) ≡ false) ⊎ Changes circuit (nets (suc t)) values
    empty_now (inl none) =
        inl (list_any-append (λ (g : Given). g.time == suc t) old new
        ∙ or_from (list_any (λ (g : Given). g.time == suc t) old) (list_any (λ (g : Given). g.time == suc t) new) (none_at (suc t) d.time old (let m : d.time ≤ t = h.time in omega arith) h.within) (ap (list_any (λ (g : Given). g.time == suc t)) none))
    empty_now (inr c) = inr (carried c)

    now_needed : (list_any (λ (g : Given). g.time == suc t) (old ++ new) ≡ false) ⊎ Changes circuit (nets (suc t)) values
    now_needed = empty_now (none_or_change circuit ds (suc t) d.values values 0 vs reads)

    old_needed : (u : ℕ) → u ≤ t → (list_any (λ (g : Given). g.time == u) old ≡ false) ⊎ Changes circuit (nets u) (nets (suc u)) → (list_any (λ (g : Given). g.time == u) (old ++ new) ≡ false) ⊎ Changes circuit (nets u) (nets (suc u))
    old_needed u l (inl none) =
        inl (list_any-append (λ (g : Given). g.time == u) old new
        ∙ or_from (list_any (λ (g : Given). g.time == u) old) (list_any (λ (g : Given). g.time == u) new) none (none_of u (suc t) new (λ q. (let z : suc t ≡ u = q in absurd (omega arith))) times))
    old_needed u l (inr c) = inr c

-- ---- all times

pub record Showing (circuit : Circuit) (ds : List Declaration) (vs : List Variable) (nets : ℕ → List Value) (t : ℕ) : Type 0 where
  pub shown_as : Shown
  pub is : shown vs (shots nets (suc t)) ≡ Some shown_as
  pub upto : Upto circuit ds nets t shown_as

pub showing : (circuit : Circuit) (ds : List Declaration) (vs : List Variable) (nets : ℕ → List Value) (t end : ℕ) → t ≤ end → EachRead circuit ds 0 vs → ((net : ℕ) → IsInput circuit net → HasReader circuit ds net 0 vs)
    → ((u : ℕ) → u ≤ end → number_from 0 (decimal u) ≡ u) → Showing circuit ds vs nets t
showing circuit ds vs nets zero end l reads covers digits = record {
  shown_as = record { items = first_items vs (record { time = 0; values = nets 1 }); time = 0; values = nets 1 };
  is = refl;
  upto = upto_first circuit ds vs nets reads covers (digits 0 (omega arith));
}
showing circuit ds vs nets (suc t) end l reads covers digits =
    let before = showing circuit ds vs nets t end (omega arith) reads covers digits in
    let d : Shown = before.shown_as in
    at d before.upto before.is (any_variable_differs vs d.values (nets (suc (suc t)))) refl
  where
    s : Snapshot
    s = record { time = suc t; values = nets (suc (suc t)) }

    at : (d : Shown) → Upto circuit ds nets t d → shown vs (shots nets (suc t)) ≡ Some d → (b : Bool) → any_variable_differs vs d.values (nets (suc (suc t))) ≡ b → Showing circuit ds vs nets (suc t)
    at d h is true e = record {
      shown_as = record { items = d.items ++ later_items vs d.values s; time = suc t; values = nets (suc (suc t)) };
      is = ap (shown_with vs s) is ∙ ap (λ b. if b then Some (record { items = d.items ++ later_items vs d.values s; time = suc t; values = nets (suc (suc t)) }) else Some d) e;
      upto = upto_more circuit ds vs nets t d reads covers (digits (suc t) l) h;
    }
    at d h is false e = record {
      shown_as = d;
      is = ap (shown_with vs s) is ∙ ap (λ b. if b then Some (record { items = d.items ++ later_items vs d.values s; time = suc t; values = nets (suc (suc t)) }) else Some d) e;
      upto = upto_same circuit ds vs nets t d covers h e;
    }
