-- The steps of a dump's stimulus, by what the dump gives at each time.
use Rattle.std.specs.Prelude.{◌≡◌, ◌≢◌, ℕ, zero, suc, ◌+◌, ◌<◌, ◌≤◌, ◌==◌, ◌&&◌, ◌||◌, ◌⊎◌, Bool, true, false, not, cond, if◌then◌else◌, List, [], ◌∷◌, length, map, filter, filter_map, Option, Some, None, option_map, refl}
use Rattle.std.specs.List.{AllByRecursion, cons_option, list_any, range_with_len}
use Rattle.std.proofs.Common.{sym, ◌∙◌, ap, subst, arith, inl, inr}
use Rattle.std.proofs.lemmas.Bool.{and_parts, eq-eqb, eqb-true, eqb-false, or_from, or_left, or_parts, or_right}
use Rattle.std.proofs.lemmas.List.Elements.{All-from_recursion}
use Rattle.sg_logic.specs.declared.values.Value.{Value}
use Rattle.sg_model.specs.Values.{value_at}
use Rattle.sg_circuit.specs.Circuit.{Circuit}
use Rattle.sg_stimulus.specs.Applied.{IsInput, SetsOnce, StepsRise}
use Rattle.sg_stimulus.specs.Stimulus.{sets_at}
use Rattle.run_laws.specs.Inputs.{IsSetBy, TellInputs}
use Rattle.vcd_model.specs.Stimulus.{is_given, last, last_given, once, step_at, steps_of}
use Rattle.vcd_model.specs.Values.{ticks, Given, Scale}

-- ---- the last value given

last_all : (P : Value → Type 0) (vs : List Value) (v : Value) → AllByRecursion P vs → last vs ≡ Some v → P v
last_all P [] v h e = absurd (let q : None ≡ Some v = e in cc)
last_all P (w ∷ []) v h e = subst P (let q : Some w ≡ Some v = e in cc) h.0
last_all P (w ∷ x ∷ xs) v h e = last_all P (x ∷ xs) v h.1 e

-- what is so of all that are given is so of those values
given_values : (P : Value → Type 0) (time net : ℕ) (gs : List Given) → AllByRecursion (λ (g : Given). is_given time net g ≡ true → P g.value) gs → AllByRecursion P (map (λ (g : Given). g.value) (filter (is_given time net) gs))
given_values P time net [] h = tt
given_values P time net (g ∷ gs) h = at (is_given time net g) h.0 (given_values P time net gs h.1)
  where
    at : (b : Bool) → (b ≡ true → P g.value) → AllByRecursion P (map (λ (x : Given). x.value) (filter (is_given time net) gs)) → AllByRecursion P (map (λ (x : Given). x.value) (cond b (g ∷ filter (is_given time net) gs) (filter (is_given time net) gs)))
    at true here rest = (here refl, rest)
    at false here rest = rest

-- one is last where one is given
last_there : (time net : ℕ) (gs : List Given) → last (map (λ (g : Given). g.value) (filter (is_given time net) gs)) ≡ None → list_any (is_given time net) gs ≡ false
last_there time net [] e = refl
last_there time net (g ∷ gs) e = at (is_given time net g) e (last_there time net gs)
  where
    some : (v : Value) (vs : List Value) → last (v ∷ vs) ≡ None → ⊥
    some v [] k = (let q : Some v ≡ None = k in cc)
    some v (w ∷ ws) k = some w ws k

    at : (b : Bool) → last (map (λ (x : Given). x.value) (cond b (g ∷ filter (is_given time net) gs) (filter (is_given time net) gs))) ≡ None
        → (last (map (λ (x : Given). x.value) (filter (is_given time net) gs)) ≡ None → list_any (is_given time net) gs ≡ false) → (b || list_any (is_given time net) gs) ≡ false
    at true k rest = absurd (some g.value (map (λ (x : Given). x.value) (filter (is_given time net) gs)) k)
    at false k rest = rest k

-- none is last where none is given
none_last : (time net : ℕ) (gs : List Given) → list_any (is_given time net) gs ≡ false → filter (is_given time net) gs ≡ []
none_last time net [] h = refl
none_last time net (g ∷ gs) h =
    let b = or_parts (is_given time net g) (list_any (is_given time net) gs) h in
    ap (λ t. cond t (g ∷ filter (is_given time net) gs) (filter (is_given time net) gs)) b.0 ∙ none_last time net gs b.1

pub no_last_given : (gs : List Given) (time net : ℕ) → list_any (is_given time net) gs ≡ false → last_given gs time net ≡ None
no_last_given gs time net h = ap (λ (fs : List Given). option_map (λ (v : Value). (net, v)) (last (map (λ (g : Given). g.value) fs))) (none_last time net gs h)

-- ---- the sets of a time

abbrev pub sets_now : (nets : ℕ) → List Given → ℕ → List (ℕ × Value)
sets_now nets gs time = filter_map (last_given gs time) (range_with_len 0 nets)

-- a time at which nothing is given has none
nothing_now : (nets k : ℕ) (gs : List Given) (time : ℕ) → list_any (λ (g : Given). g.time == time) gs ≡ false → filter_map (last_given gs time) (range_with_len k nets) ≡ []
nothing_now zero k gs time h = refl
nothing_now (suc n) k gs time h =
    ap (λ o. cons_option o (filter_map (last_given gs time) (range_with_len (k + 1) n))) (no_last_given gs time k (none_of gs h)) ∙ nothing_now n (k + 1) gs time h
  where
    none_of : (xs : List Given) → list_any (λ (g : Given). g.time == time) xs ≡ false → list_any (is_given time k) xs ≡ false
    none_of [] e = refl
    none_of (x ∷ xs) e =
        let b = or_parts (x.time == time) (list_any (λ (g : Given). g.time == time) xs) e in
        or_from (is_given time k x) (list_any (is_given time k) xs) (ap (λ t. t && (x.net == k)) b.0) (none_of xs b.1)

-- the times, each once
any_kept : (t x : ℕ) (us : List ℕ) → (t == x) ≡ false → list_any (λ u. u == x) (filter (λ u. not (u == t)) us) ≡ list_any (λ u. u == x) us
any_kept t x [] h = refl
any_kept t x (u ∷ us) h = at (u == t) refl (any_kept t x us h)
  where
    at : (b : Bool) → (u == t) ≡ b → list_any (λ v. v == x) (filter (λ v. not (v == t)) us) ≡ list_any (λ v. v == x) us → list_any (λ v. v == x) (cond (not b) (u ∷ filter (λ v. not (v == t)) us) (filter (λ v. not (v == t)) us)) ≡ ((u == x) || list_any (λ v. v == x) us)
    at true e rest =
        let other : (u == x) ≡ false = ap (λ v. v == x) (eqb-true u t e) ∙ h in
        rest ∙ sym (ap (λ b. b || list_any (λ v. v == x) us) other)
    at false e rest = ap (λ b. (u == x) || b) rest

any_once : (x : ℕ) (ts : List ℕ) → list_any (λ u. u == x) (once ts) ≡ list_any (λ u. u == x) ts
any_once x [] = refl
any_once x (t ∷ ts) = at (t == x) refl (any_once x ts)
  where
    at : (b : Bool) → (t == x) ≡ b → list_any (λ u. u == x) (once ts) ≡ list_any (λ u. u == x) ts → (b || list_any (λ u. u == x) (filter (λ u. not (u == t)) (once ts))) ≡ (b || list_any (λ u. u == x) ts)
    at true e rest = refl
    at false e rest = any_kept t x (once ts) e ∙ rest

any_time : (x : ℕ) (gs : List Given) → list_any (λ u. u == x) (map (λ (g : Given). g.time) gs) ≡ list_any (λ (g : Given). g.time == x) gs
any_time x [] = refl
any_time x (g ∷ gs) = ap (λ b. (g.time == x) || b) (any_time x gs)

sets_of : (scale : Scale) (nets : ℕ) (gs : List Given) (ts : List ℕ) (time : ℕ) → ((u : ℕ) → ticks scale u ≡ u) → (list_any (λ u. u == time) ts ≡ false → list_any (λ (g : Given). g.time == time) gs ≡ false)
    → sets_at (map (step_at scale nets gs) ts) time ≡ sets_now nets gs time
sets_of scale nets gs [] time same none = sym (nothing_now nets 0 gs time (none refl))
sets_of scale nets gs (t ∷ ts) time same none =
    ap (λ u. if u == time then sets_now nets gs t else sets_at (map (step_at scale nets gs) ts) time) (same t) ∙ at (t == time) refl (λ e. sets_of scale nets gs ts time same (λ h. none (or_from (t == time) (list_any (λ u. u == time) ts) e h)))
  where
    at : (b : Bool) → (t == time) ≡ b → ((t == time) ≡ false → sets_at (map (step_at scale nets gs) ts) time ≡ sets_now nets gs time) → (if b then sets_now nets gs t else sets_at (map (step_at scale nets gs) ts) time) ≡ sets_now nets gs time
    at true e rest = ap (sets_now nets gs) (eqb-true t time e)
    at false e rest = rest e

-- the steps at a time are the sets of that time
pub steps_now : (scale : Scale) (nets : ℕ) (gs : List Given) (time : ℕ) → ((u : ℕ) → ticks scale u ≡ u) → sets_at (steps_of scale nets gs) time ≡ sets_now nets gs time
steps_now scale nets gs time same =
    sets_of scale nets gs (once (map (λ (g : Given). g.time) gs)) time same (λ h. sym (any_time time gs) ∙ (sym (any_once time (map (λ (g : Given). g.time) gs)) ∙ h))

-- ---- what the sets of a time say

-- what is given at a time is right of inputs, and each input that changes is given
pub record GivesAt (circuit : Circuit) (before after : List Value) (time : ℕ) (gs : List Given) : Type 0 where
  pub right : AllByRecursion (λ (g : Given). g.time ≡ time → IsInput circuit g.net × (g.value ≡ value_at after g.net)) gs
  pub each : (net : ℕ) → IsInput circuit net → (value_at after net ≡ value_at before net) ⊎ (list_any (is_given time net) gs ≡ true)

-- a set of a time is of a net that is given
pair_of : (P : Value → Type 0) (net : ℕ) (o : Option Value) (c : ℕ × Value) → ((v : Value) → o ≡ Some v → P v) → option_map (λ (v : Value). (net, v)) o ≡ Some c → (c.0 ≡ net) × P c.1
pair_of P net None c h e = absurd (let q : None ≡ Some c = e in cc)
pair_of P net (Some v) c h e =
    let same : (net, v) ≡ c = some_same (net, v) c e in
    (ap (λ (x : ℕ × Value). x.0) (sym same), subst (λ (x : ℕ × Value). P x.1) same (h v refl))
  where
    some_same : (a b : ℕ × Value) → ◌≡◌ {A = Option (ℕ × Value)} (Some a) (Some b) → a ≡ b
    some_same a b k = cc

pub last_is : (P : Value → Type 0) (gs : List Given) (time net : ℕ) (c : ℕ × Value) → AllByRecursion (λ (g : Given). is_given time net g ≡ true → P g.value) gs → last_given gs time net ≡ Some c → (c.0 ≡ net) × P c.1
last_is P gs time net c h e =
    pair_of P net (last (map (λ (g : Given). g.value) (filter (is_given time net) gs))) c (λ v k. last_all P (map (λ (g : Given). g.value) (filter (is_given time net) gs)) v (given_values P time net gs h) k) e

-- what is so of each set
pub sets_all : (Q : ℕ × Value → Type 0) (gs : List Given) (time k nets : ℕ) → ((net : ℕ) (c : ℕ × Value) → k ≤ net → last_given gs time net ≡ Some c → Q c) → AllByRecursion Q (filter_map (last_given gs time) (range_with_len k nets))
sets_all Q gs time k zero h = tt
sets_all Q gs time k (suc n) h = at (last_given gs time k) refl (sets_all Q gs time (k + 1) n (λ net c l e. h net c (omega arith) e))
  where
    at : (o : Option (ℕ × Value)) → last_given gs time k ≡ o → AllByRecursion Q (filter_map (last_given gs time) (range_with_len (k + 1) n)) → AllByRecursion Q (cons_option o (filter_map (last_given gs time) (range_with_len (k + 1) n)))
    at None e rest = rest
    at (Some c) e rest = (h k c (omega arith) e, rest)

-- each net that is given is set
set_there : (gs : List Given) (time k nets net : ℕ) → k ≤ net → net < k + nets → list_any (is_given time net) gs ≡ true → list_any (λ (c : ℕ × Value). c.0 == net) (filter_map (last_given gs time) (range_with_len k nets)) ≡ true
set_there gs time k zero net l m h = absurd (omega arith)
set_there gs time k (suc n) net l m h = at (k == net) refl (λ (other : k ≢ net). set_there gs time (k + 1) n net (omega arith) (omega arith) h)
  where
    rest : List (ℕ × Value)
    rest = filter_map (last_given gs time) (range_with_len (k + 1) n)

    skip : (o : Option (ℕ × Value)) → list_any (λ (c : ℕ × Value). c.0 == net) rest ≡ true → list_any (λ (c : ℕ × Value). c.0 == net) (cons_option o rest) ≡ true
    skip None e = e
    skip (Some c) e = or_right (c.0 == net) (list_any (λ (x : ℕ × Value). x.0 == net) rest) e

    here : (o : Option Value) → last (map (λ (g : Given). g.value) (filter (is_given time k) gs)) ≡ o → k ≡ net → list_any (λ (c : ℕ × Value). c.0 == net) (cons_option (option_map (λ (v : Value). (k, v)) o) rest) ≡ true
    here None e same = absurd (let q : false ≡ true = sym (ap (λ x. list_any (is_given time x) gs) (sym same) ∙ last_there time k gs e) ∙ h in cc)
    here (Some v) e same = or_left (k == net) (list_any (λ (x : ℕ × Value). x.0 == net) rest) (eq-eqb k net same)

    at : (b : Bool) → (k == net) ≡ b → (k ≢ net → list_any (λ (c : ℕ × Value). c.0 == net) rest ≡ true) → list_any (λ (c : ℕ × Value). c.0 == net) (cons_option (last_given gs time k) rest) ≡ true
    at true e later = here (last (map (λ (g : Given). g.value) (filter (is_given time k) gs))) refl (eqb-true k net e)
    at false e later = skip (last_given gs time k) (later (eqb-false k net e))

at_time : (circuit : Circuit) (after : List Value) (time net : ℕ) (gs : List Given) → AllByRecursion (λ (g : Given). g.time ≡ time → IsInput circuit g.net × (g.value ≡ value_at after g.net)) gs
    → AllByRecursion (λ (g : Given). is_given time net g ≡ true → IsInput circuit net × (g.value ≡ value_at after net)) gs
at_time circuit after time net [] h = tt
at_time circuit after time net (g ∷ gs) h = (
  (λ e. (let b = and_parts (g.time == time) (g.net == net) e in
      let same : g.net ≡ net = eqb-true g.net net b.1 in
      let r = h.0 (eqb-true g.time time b.0) in
      (subst (IsInput circuit) same r.0, r.1 ∙ ap (value_at after) same))),
  at_time circuit after time net gs h.1,
)

pub tells : (circuit : Circuit) (before after : List Value) (time : ℕ) (gs : List Given) → GivesAt circuit before after time gs → TellInputs circuit before after (sets_now (length circuit.nets) gs time)
tells circuit before after time gs h = record {
  right = All-from_recursion (λ (c : ℕ × Value). IsInput circuit c.0 × (c.1 ≡ value_at after c.0)) (sets_now (length circuit.nets) gs time)
      (sets_all (λ (c : ℕ × Value). IsInput circuit c.0 × (c.1 ≡ value_at after c.0)) gs time 0 (length circuit.nets) (λ net c l e.
      (let r = last_is (λ v. IsInput circuit net × (v ≡ value_at after net)) gs time net c (at_time circuit after time net gs h.right) e in
      (subst (IsInput circuit) (sym r.0) r.1.0, r.1.1 ∙ ap (value_at after) (sym r.0)))));
  each = λ net input. given_or_same net input (h.each net input);
}
  where
    given_or_same : (net : ℕ) → IsInput circuit net → (value_at after net ≡ value_at before net) ⊎ (list_any (is_given time net) gs ≡ true) → (value_at after net ≡ value_at before net) ⊎ IsSetBy (sets_now (length circuit.nets) gs time) net
    given_or_same net input (inl same) = inl same
    given_or_same net input (inr given) = inr (set_there gs time 0 (length circuit.nets) net (omega arith) (subst (λ n. net < n) (let q : length circuit.nets ≡ 0 + length circuit.nets = omega arith in q) input.0) given)

-- a set of a time has something given at the time
pub given_then : (gs : List Given) (time nets : ℕ) → list_any (λ (g : Given). g.time == time) gs ≡ false → sets_now nets gs time ≡ []
given_then gs time nets h = nothing_now nets 0 gs time h

-- ---- that they can be applied

-- numbers that rise from one on
abbrev pub RisesFrom : ℕ → List ℕ → Type 0
RisesFrom low [] = Unit {0}
RisesFrom low (u ∷ us) = (low ≤ u) × RisesFrom (suc u) us

-- and that don't fall
abbrev pub ClimbsFrom : ℕ → List ℕ → Type 0
ClimbsFrom low [] = Unit {0}
ClimbsFrom low (u ∷ us) = (low ≤ u) × ClimbsFrom u us

lower : (low high : ℕ) (us : List ℕ) → low ≤ high → RisesFrom high us → RisesFrom low us
lower low high [] l h = tt
lower low high (u ∷ us) l h = (omega (arith, h.0), h.1)

kept_rises : (test : ℕ → Bool) (low : ℕ) (us : List ℕ) → RisesFrom low us → RisesFrom low (filter test us)
kept_rises test low [] h = tt
kept_rises test low (u ∷ us) h = at (test u) (kept_rises test (suc u) us h.1)
  where
    at : (b : Bool) → RisesFrom (suc u) (filter test us) → RisesFrom low (cond b (u ∷ filter test us) (filter test us))
    at true rest = (h.0, rest)
    at false rest = lower low (suc u) (filter test us) (omega (arith, h.0)) rest

others_rise : (t : ℕ) (us : List ℕ) → RisesFrom t us → RisesFrom (suc t) (filter (λ u. not (u == t)) us)
others_rise t [] h = tt
others_rise t (u ∷ us) h = at (u == t) refl (kept_rises (λ v. not (v == t)) (suc u) us h.1)
  where
    at : (b : Bool) → (u == t) ≡ b → RisesFrom (suc u) (filter (λ v. not (v == t)) us) → RisesFrom (suc t) (cond (not b) (u ∷ filter (λ v. not (v == t)) us) (filter (λ v. not (v == t)) us))
    at true e rest = lower (suc t) (suc u) (filter (λ v. not (v == t)) us) (let q : u ≡ t = eqb-true u t e in omega arith) rest
    at false e rest = ((let q : u ≢ t = eqb-false u t e in let l : t ≤ u = h.0 in omega arith), rest)

once_rises : (low : ℕ) (ts : List ℕ) → ClimbsFrom low ts → RisesFrom low (once ts)
once_rises low [] h = tt
once_rises low (t ∷ ts) h = (h.0, others_rise t (once ts) (once_rises t ts h.1))

steps_rise : (scale : Scale) (nets : ℕ) (gs : List Given) (low : ℕ) (ts : List ℕ) → ((u : ℕ) → ticks scale u ≡ u) → RisesFrom low ts → StepsRise (map (step_at scale nets gs) ts)
steps_rise scale nets gs low [] same h = tt
steps_rise scale nets gs low (t ∷ []) same h = (tt, tt)
steps_rise scale nets gs low (t ∷ u ∷ us) same h =
    (subst (λ x. x < ticks scale u) (sym (same t)) (subst (λ x. t < x) (sym (same u)) (h.1.0)), steps_rise scale nets gs (suc t) (u ∷ us) same h.1)

pub wave_rises : (scale : Scale) (nets : ℕ) (gs : List Given) → ((u : ℕ) → ticks scale u ≡ u) → ClimbsFrom 0 (map (λ (g : Given). g.time) gs) → StepsRise (steps_of scale nets gs)
wave_rises scale nets gs same h = steps_rise scale nets gs 0 (once (map (λ (g : Given). g.time) gs)) same (once_rises 0 (map (λ (g : Given). g.time) gs) h)

-- each net once
sets_above : (gs : List Given) (time k nets : ℕ) → AllByRecursion (λ (c : ℕ × Value). k ≤ c.0) (filter_map (last_given gs time) (range_with_len k nets))
sets_above gs time k nets = sets_all (λ (c : ℕ × Value). k ≤ c.0) gs time k nets (λ net c l e. (let r = last_is (λ v. Unit {0}) gs time net c (any_at time net gs) e in subst (λ x. k ≤ x) (sym r.0) l))
  where
    any_at : (time net : ℕ) (xs : List Given) → AllByRecursion (λ (g : Given). is_given time net g ≡ true → Unit {0}) xs
    any_at time net [] = tt
    any_at time net (x ∷ xs) = ((λ e. tt), any_at time net xs)

pub sets_once : (gs : List Given) (time k nets : ℕ) → SetsOnce (filter_map (last_given gs time) (range_with_len k nets))
sets_once gs time k zero = tt
sets_once gs time k (suc n) = at (last_given gs time k) refl (sets_once gs time (k + 1) n)
  where
    rest : List (ℕ × Value)
    rest = filter_map (last_given gs time) (range_with_len (k + 1) n)

    apart : (net : ℕ) (cs : List (ℕ × Value)) → net ≡ k → AllByRecursion (λ (c : ℕ × Value). k + 1 ≤ c.0) cs → AllByRecursion (λ (c : ℕ × Value). c.0 ≢ net) cs
    apart net [] e h = tt
    apart net (c ∷ cs) e h = ((λ q. (let l : k + 1 ≤ c.0 = h.0 in absurd (omega arith))), apart net cs e h.1)

    none_again : (time net : ℕ) (xs : List Given) → AllByRecursion (λ (g : Given). is_given time net g ≡ true → Unit {0}) xs
    none_again time net [] = tt
    none_again time net (x ∷ xs) = ((λ e. tt), none_again time net xs)

    at : (o : Option (ℕ × Value)) → last_given gs time k ≡ o → SetsOnce rest → SetsOnce (cons_option o rest)
    at None e later = later
    at (Some c) e later =
        let r = last_is (λ v. Unit {0}) gs time k c (none_again time k gs) e in
        (All-from_recursion (λ (x : ℕ × Value). x.0 ≢ c.0) rest (apart c.0 rest r.0 (sets_above gs time (k + 1) n)), later)
