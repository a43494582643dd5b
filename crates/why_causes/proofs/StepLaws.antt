-- The last input whose step changed the state.
use Rattle.std.specs.Prelude.{◌≡◌, ℕ, zero, suc, ◌+◌, ◌<◌, ◌≤◌, ◌==◌, nat_le, Bool, true, false, cond, not, ◌&&◌, List, [], ◌∷◌, ◌++◌, filter, filter_map, length, map, take, drop, Option, Some, None, slice_get, slice_index_or, slice_set, ◌⊎◌, unwrap_or, option_map, refl}
use Rattle.std.specs.List.{enumerate_from, last_or, AllByRecursion, cons_option, list_all}
use Rattle.std.specs.Option.{option_and_then}
use Rattle.std.proofs.Common.{sym, ◌∙◌, ap, subst, arith, inl, inr, eqb-true}
use Rattle.std.proofs.lemmas.List.{get_or_push, length-map}
use Rattle.std.proofs.Math.ListN.{get_or-append}
use Rattle.std.proofs.lemmas.Bool.Decides.{nat_tests}
use Rattle.std.proofs.lemmas.List.Elements.{filter-append}
use Rattle.sg_logic.specs.Values.{is_same}
use Rattle.sg_logic.specs.declared.values.Value.{Value}
use Rattle.udp_rows.specs.Meaning.{Primitive, udp_next}
use Rattle.why_causes.specs.declared.changes.Candidate.{Candidate}
use Rattle.why_causes.specs.declared.events.Event.{Event}
use Rattle.why_causes.specs.Waveform.{Waveform, last_before, value_before}
use Rattle.why_causes.specs.Candidates.{time_of, last_of, last_of_each, latest}
use Rattle.why_causes.specs.Causes.{is_step, last_step, stepping}
use Rattle.why_causes.specs.Steps.{AreSteps, kept_at, last_at, last_by}
use Rattle.why_causes.proofs.Lists.{each-weaker, filter-same, mapped-more, numbered-all}

-- one input more has its new value
mixed-set : {A : Type 0} (i : ℕ) (old new : List A) (x d : A) → length new ≡ length old → i < length old → x ≡ slice_index_or new i d → slice_set (take i new ++ drop i old) i x ≡ take (suc i) new ++ drop (suc i) old
mixed-set i [] new x d m l is = absurd (omega (arith, l))
mixed-set i (o ∷ os) [] x d m l is = absurd (omega (arith, m))
mixed-set zero (o ∷ os) (n ∷ ns) x d m l is = ap (λ y. y ∷ os) is
mixed-set (suc i) (o ∷ os) (n ∷ ns) x d m l is = ap (λ ys. n ∷ ys) (mixed-set i os ns x d (omega (arith, m)) (omega (arith, l)) is)

pub mixed-more : {A : Type 0} (i k : ℕ) (taken old new : List A) (x d : A) → length new ≡ k → length old ≡ k → i < k → taken ≡ take i new ++ drop i old → x ≡ slice_index_or new i d → slice_set taken i x ≡ take (suc i) new ++ drop (suc i) old
mixed-more i k taken old new x d m o l e is = ap (λ ys. slice_set ys i x) e ∙ mixed-set i old new x d (m ∙ sym o) (omega (arith, l, o)) is

pub mixed-length : {A : Type 0} (i k : ℕ) (taken old new : List A) → length new ≡ k → length old ≡ k → i ≤ k → taken ≡ take i new ++ drop i old → length taken ≡ k
mixed-length i k taken old new m o l e = ap length e ∙ lengths i old new (m ∙ sym o) ∙ o
  where
    lengths : {A : Type 0} (i : ℕ) (old new : List A) → length new ≡ length old → length (take i new ++ drop i old) ≡ length old
    lengths zero old new e = refl
    lengths (suc i) [] [] e = refl
    lengths (suc i) [] (n ∷ ns) e = absurd (omega (arith, e))
    lengths (suc i) (o ∷ os) [] e = absurd (omega (arith, e))
    lengths (suc i) (o ∷ os) (n ∷ ns) e = let k = lengths i os ns (omega (arith, e)) in omega (arith, k)

below-or-at : (n k : ℕ) → k < n + 1 → (k < n) ⊎ (k ≡ n)
below-or-at zero zero l = inr refl
below-or-at zero (suc k) l = absurd (omega (arith, l))
below-or-at (suc n) zero l = inl (omega arith)
below-or-at (suc n) (suc k) l = elim (below-or-at n k (omega (arith, l))) [ inl below ↦ inl (omega (arith, below)) | inr same ↦ inr (ap suc same) ]

none-some : {A : Type 0} {x : A} → ◌≡◌ {A = Option A} None (Some x) → ⊥
none-some h = cc

some-some : {A : Type 0} {x y : A} → ◌≡◌ {A = Option A} (Some x) (Some y) → x ≡ y
some-some {A} {x} h = ap (λ o. unwrap_or o x) h

-- a flag more
pub steps-more : (test : ℕ → Bool) (steps : List Bool) (i : ℕ) (flag : Bool) (new : List Bool) → length steps ≡ i → ((k : ℕ) → k < i → slice_index_or steps k false ≡ test k) → flag ≡ test i → new ≡ steps ++ flag ∷ []
    → (length new ≡ i + 1) × ((k : ℕ) → k < i + 1 → slice_index_or new k false ≡ test k)
steps-more test steps i flag new m h f e = (ap length e ∙ long steps flag ∙ ap (λ n. n + 1) m, λ k l. ap (λ bs. slice_index_or bs k false) e ∙ at steps i k flag m h f l)
  where
    long : (bs : List Bool) (b : Bool) → length (bs ++ b ∷ []) ≡ length bs + 1
    long [] b = refl
    long (x ∷ xs) b = let e = long xs b in omega (arith, e)

    at : (bs : List Bool) (i k : ℕ) (b : Bool) → length bs ≡ i → ((k : ℕ) → k < i → slice_index_or bs k false ≡ test k) → b ≡ test i → k < i + 1 → slice_index_or (bs ++ b ∷ []) k false ≡ test k
    at bs i k b m h f l = elim (below-or-at i k l) [
      | inl below ↦ get_or-append bs (b ∷ []) false k (omega (arith, below, m)) ∙ h k below
      | inr same ↦ get_or_push bs b false k (m ∙ sym same) ∙ (f ∙ ap test (sym same))
    ]

pub is-step-by : (udp : Primitive) (old new taken taken' : List Value) (state before after : Value) (i : ℕ) (result : Bool) → result ≡ not (is_same before after) → before ≡ udp_next udp old taken state → after ≡ udp_next udp old taken' state
    → taken ≡ take i new ++ drop i old → taken' ≡ take (suc i) new ++ drop (suc i) old → result ≡ is_step udp old new state i
is-step-by udp old new taken taken' state before after i result r b a t u =
    r ∙ (ap (λ v. not (is_same v after)) (b ∙ ap (λ vs. udp_next udp old vs state) t) ∙ ap (λ v. not (is_same (udp_next udp old (take i new ++ drop i old) state) v)) (a ∙ ap (λ vs. udp_next udp old vs state) u))

-- the last of two lists
last-append : {A : Type 0} (o : Option A) (xs ys : List A) → last_or o (xs ++ ys) ≡ last_or (last_or o xs) ys
last-append o [] ys = refl
last-append o (x ∷ xs) ys = last-append (Some x) xs ys

-- of a list, or else what was kept
last-some : {A : Type 0} (a : A) (xs : List A) → (b : A) × (last_or (Some a) xs ≡ Some b)
last-some a [] = (a, refl)
last-some a (x ∷ xs) = last-some x xs

last-or-kept : {A : Type 0} (kept : Option A) (xs : List A) → last_or kept (cons_option (last_or None xs) []) ≡ last_or kept xs
last-or-kept kept [] = refl
last-or-kept kept (x ∷ xs) = let s = last-some x xs in ap (λ o. last_or kept (cons_option o [])) s.1 ∙ sym s.1

-- an input's event at a time, if it is a step
steps-of-one : (steps : List Bool) (w : Waveform) (limit time i n : ℕ) → filter (λ (c : Candidate). slice_index_or steps c.input false) (cons_option (last_at w limit time (i, n)) []) ≡ cons_option (cond (slice_index_or steps i false) (last_at w limit time (i, n)) None) []
steps-of-one steps w limit time i n = at (last_before w n limit)
  where
    nothing : (b : Bool) → ◌≡◌ {A = List Candidate} [] (cons_option (cond b None None) [])
    nothing true = refl
    nothing false = refl

    something : (c : Candidate) (b : Bool) → cond b (c ∷ []) [] ≡ cons_option (cond b (Some c) None) []
    something c true = refl
    something c false = refl

    kept : (c : Candidate) (t : Bool) → c.input ≡ i → filter (λ (c : Candidate). slice_index_or steps c.input false) (cons_option (cond t (Some c) None) []) ≡ cons_option (cond (slice_index_or steps i false) (cond t (Some c) None) None) []
    kept c true e = ap (λ k. cond (slice_index_or steps k false) (c ∷ []) []) e ∙ something c (slice_index_or steps i false)
    kept c false e = nothing (slice_index_or steps i false)

    at : (o : Option (ℕ × Event)) → filter (λ (c : Candidate). slice_index_or steps c.input false) (cons_option (option_and_then (kept_at time) (option_map (λ (e : ℕ × Event). record { input = i; number = e.0; event = e.1 }) o)) [])
        ≡ cons_option (cond (slice_index_or steps i false) (option_and_then (kept_at time) (option_map (λ (e : ℕ × Event). record { input = i; number = e.0; event = e.1 }) o)) None) []
    at None = nothing (slice_index_or steps i false)
    at (Some e) = kept (record { input = i; number = e.0; event = e.1 }) (e.1.time == time) refl

module _ (w : Waveform) (limit time : ℕ) (steps : List Bool) (inputs : List ℕ) (i : ℕ) where
  -- the events at a time of the first so many inputs
  abbrev pub at_time : List Candidate
  at_time = filter_map (last_at w limit time) (take i (enumerate_from 0 inputs))

  pub last-more : (last found new : Option Candidate) → i < length inputs → last ≡ last_or None at_time → found ≡ last_at w limit time (i, slice_index_or inputs i 0) → new ≡ last_or last (cons_option found [])
      → new ≡ last_or None (filter_map (last_at w limit time) (take (i + 1) (enumerate_from 0 inputs)))
  last-more last found new l e f n =
      n ∙ (ap (λ o. last_or o (cons_option found [])) e ∙ (ap (λ o. last_or (last_or None at_time) (cons_option o [])) f
      ∙ (sym (last-append None at_time (cons_option (last_at w limit time (i, slice_index_or inputs i 0)) []))
      ∙ ap (last_or None) (sym (mapped-more (last_at w limit time) inputs i (slice_index_or inputs i 0) 0 l refl)))))

  pub stepped-more : (stepped found kept new : Option Candidate) → i < length inputs → stepped ≡ last_or None (filter (λ (c : Candidate). slice_index_or steps c.input false) at_time)
      → found ≡ last_at w limit time (i, slice_index_or inputs i 0) → kept ≡ cond (slice_index_or steps i false) found None → new ≡ last_or stepped (cons_option kept [])
      → new ≡ last_or None (filter (λ (c : Candidate). slice_index_or steps c.input false) (filter_map (last_at w limit time) (take (i + 1) (enumerate_from 0 inputs))))
  stepped-more stepped found kept new l e f k n =
      let flag : Candidate → Bool = λ c. slice_index_or steps c.input false in
      let one = last_at w limit time (i, slice_index_or inputs i 0) in
      n ∙ (ap (λ o. last_or o (cons_option kept [])) e ∙ (ap (λ o. last_or (last_or None (filter flag at_time)) (cons_option o [])) (k ∙ ap (λ o. cond (slice_index_or steps i false) o None) f)
      ∙ (ap (last_or (last_or None (filter flag at_time))) (sym (steps-of-one steps w limit time i (slice_index_or inputs i 0)))
      ∙ (sym (last-append None (filter flag at_time) (filter flag (cons_option one [])))
      ∙ (ap (last_or None) (sym (filter-append flag at_time (cons_option one [])))
      ∙ ap (λ cs. last_or None (filter flag cs)) (sym (mapped-more (last_at w limit time) inputs i (slice_index_or inputs i 0) 0 l refl)))))))

  pub last-by : (last stepped result : Option Candidate) → length inputs ≤ i → last ≡ last_or None at_time → stepped ≡ last_or None (filter (λ (c : Candidate). slice_index_or steps c.input false) at_time)
      → result ≡ last_or last (cons_option stepped []) → result ≡ last_by steps (filter_map (last_at w limit time) (enumerate_from 0 inputs))
  last-by last stepped result l e f n =
      n ∙ (ap (λ o. last_or o (cons_option stepped [])) e ∙ (ap (λ o. last_or (last_or None at_time) (cons_option o [])) f
      ∙ (last-or-kept (last_or None at_time) (filter (λ (c : Candidate). slice_index_or steps c.input false) at_time)
      ∙ ap (λ ps. last_by steps (filter_map (last_at w limit time) ps)) (numbered-all inputs i l))))

-- Of the latest candidates the first has the time of all.
list-all-each : {A : Type 0} (p : A → Bool) (xs : List A) → list_all p xs ≡ true → AllByRecursion (λ x. p x ≡ true) xs
list-all-each p [] h = tt
list-all-each {A} p (x ∷ xs) h = at (p x) refl h (list-all-each p xs)
  where
    at : (b : Bool) → p x ≡ b → (b && list_all p xs) ≡ true → (list_all p xs ≡ true → AllByRecursion (λ x. p x ≡ true) xs) → AllByRecursion (λ x. p x ≡ true) (x ∷ xs)
    at true e h rest = (e, rest h)
    at false e h rest = absurd (cc)

-- what is first of a filter passes it, and is one of the elements
pub first-passes : {A : Type 0} (P : A → Type 0) (p : A → Bool) (xs : List A) (a : A) → AllByRecursion P xs → slice_get (filter p xs) 0 ≡ Some a → (p a ≡ true) × P a
first-passes P p [] a each h = absurd (none-some h)
first-passes {A} P p (x ∷ xs) a each h = at (p x) refl h (first-passes P p xs a each.1)
  where
    at : (b : Bool) → p x ≡ b → slice_get (cond b (x ∷ filter p xs) (filter p xs)) 0 ≡ Some a → (slice_get (filter p xs) 0 ≡ Some a → (p a ≡ true) × P a) → (p a ≡ true) × P a
    at true e h rest = let same : x ≡ a = some-some h in (subst (λ y. p y ≡ true) same e, subst P same each.0)
    at false e h rest = rest h

others : (cs : List Candidate) (s : ℕ) → AllByRecursion (λ (d : Candidate). nat_le (time_of d) s ≡ true) cs → list_all (λ (e : Candidate). nat_le (time_of e) s) cs ≡ true
    → (d : Candidate) → nat_le (time_of d) s ≡ true → (list_all (λ (e : Candidate). nat_le (time_of e) (time_of d)) cs ≡ true → nat_le s (time_of d) ≡ true)
    → list_all (λ (e : Candidate). nat_le (time_of e) (time_of d)) cs ≡ (time_of d == s)
others cs s each all d l up = at (list_all (λ (e : Candidate). nat_le (time_of e) (time_of d)) cs) refl
  where
    same : (a b : ℕ) → nat_le a b ≡ true → nat_le b a ≡ true → true ≡ (a == b)
    same a b h k = grind (arith, nat_tests)

    other : (b : Bool) → (time_of d == s) ≡ b → list_all (λ (e : Candidate). nat_le (time_of e) (time_of d)) cs ≡ false → false ≡ b
    other true e f = absurd (clash (sym (ap (λ n. list_all (λ (x : Candidate). nat_le (time_of x) n) cs) (eqb-true (time_of d) s e)) ∙ f))
      where
        clash : list_all (λ (x : Candidate). nat_le (time_of x) s) cs ≡ false → ⊥
        clash g = cc
    other false e f = refl

    at : (b : Bool) → list_all (λ (e : Candidate). nat_le (time_of e) (time_of d)) cs ≡ b → b ≡ (time_of d == s)
    at true e = same (time_of d) s l (up e)
    at false e = other (time_of d == s) refl e

each-same : (cs all : List Candidate) (s : ℕ) (c : Candidate) → AllByRecursion (λ (d : Candidate). nat_le (time_of d) s ≡ true) cs → AllByRecursion (λ (d : Candidate). nat_le (time_of d) s ≡ true) all → list_all (λ (e : Candidate). nat_le (time_of e) s) all ≡ true
    → ((d : Candidate) → list_all (λ (e : Candidate). nat_le (time_of e) (time_of d)) all ≡ true → nat_le s (time_of d) ≡ true)
    → AllByRecursion (λ (d : Candidate). list_all (λ (e : Candidate). nat_le (time_of e) (time_of d)) all ≡ (time_of d == s)) cs
each-same [] all s c h k l up = tt
each-same (d ∷ ds) all s c h k l up = (others all s k l d h.0 (up d), each-same ds all s c h.1 k l up)

-- where all of a list have a time at most s, and one of them has s
has-time : (cs : List Candidate) (p : Candidate → Bool) (c : Candidate) → slice_get (filter p cs) 0 ≡ Some c → (q : Candidate → Bool) → list_all q cs ≡ true → q c ≡ true
has-time cs p c h q all = (first-passes (λ (d : Candidate). q d ≡ true) p cs c (list-all-each q cs all) h).1

latest-at : (cs : List Candidate) (c : Candidate) → slice_get (latest cs) 0 ≡ Some c → latest cs ≡ filter (λ (d : Candidate). time_of d == time_of c) cs
latest-at cs c h =
    let test : Candidate → Bool = λ d. list_all (λ (e : Candidate). nat_le (time_of e) (time_of d)) cs in
    let all : test c ≡ true = (first-passes (λ (d : Candidate). Unit {0}) test cs c (units cs) h).0 in
    let each = list-all-each (λ (e : Candidate). nat_le (time_of e) (time_of c)) cs all in
    filter-same test (λ (d : Candidate). time_of d == time_of c) cs
    (each-same cs cs (time_of c) c each each all (λ d k. has-time cs test c h (λ (e : Candidate). nat_le (time_of e) (time_of d)) k))
  where
    units : (cs : List Candidate) → AllByRecursion (λ (d : Candidate). Unit {0}) cs
    units [] = tt
    units (d ∷ ds) = (tt, units ds)

-- those of a time, input by input
at-time : (w : Waveform) (limit s : ℕ) (is : List (ℕ × ℕ)) → filter (λ (d : Candidate). time_of d == s) (filter_map (last_of w limit) is) ≡ filter_map (last_at w limit s) is
at-time w limit s [] = refl
at-time w limit s (i ∷ is) = at (last_of w limit i) (at-time w limit s is)
  where
    kept : (c : Candidate) (t : Bool) (cs ds : List Candidate) → cs ≡ ds → cond t (c ∷ cs) cs ≡ cons_option (cond t (Some c) None) ds
    kept c true cs ds e = ap (λ es. c ∷ es) e
    kept c false cs ds e = e

    at : (o : Option Candidate) → filter (λ (d : Candidate). time_of d == s) (filter_map (last_of w limit) is) ≡ filter_map (last_at w limit s) is
        → filter (λ (d : Candidate). time_of d == s) (cons_option o (filter_map (last_of w limit) is)) ≡ cons_option (option_and_then (kept_at s) o) (filter_map (last_at w limit s) is)
    at None rest = rest
    at (Some c) rest = kept c (time_of c == s) _ _ rest

-- each is of one of the inputs
inputs-below : (w : Waveform) (limit s k n : ℕ) (nets : List ℕ) → k + length nets ≤ n → AllByRecursion (λ (c : Candidate). c.input < n) (filter_map (last_at w limit s) (enumerate_from k nets))
inputs-below w limit s k n [] l = tt
inputs-below w limit s k n (net ∷ nets) l = at (last_before w net limit) (inputs-below w limit s (k + 1) n nets (omega (arith, l)))
  where
    Rest : List Candidate → Type 0
    Rest cs = AllByRecursion (λ (c : Candidate). c.input < n) cs

    kept : (c : Candidate) (t : Bool) (cs : List Candidate) → c.input ≡ k → AllByRecursion (λ (c : Candidate). c.input < n) cs → AllByRecursion (λ (c : Candidate). c.input < n) (cons_option (cond t (Some c) None) cs)
    kept c true cs e rest = (omega (arith, l, e), rest)
    kept c false cs e rest = rest

    at : (o : Option (ℕ × Event)) → AllByRecursion (λ (c : Candidate). c.input < n) (filter_map (last_at w limit s) (enumerate_from (k + 1) nets))
        → AllByRecursion (λ (c : Candidate). c.input < n) (cons_option (option_and_then (kept_at s) (option_map (λ (e : ℕ × Event). record { input = k; number = e.0; event = e.1 }) o)) (filter_map (last_at w limit s) (enumerate_from (k + 1) nets)))
    at None rest = rest
    at (Some e) rest = kept (record { input = k; number = e.0; event = e.1 }) (e.1.time == s) _ refl rest

-- no input has an event
pub no-step : (w : Waveform) (udp : Primitive) (inputs : List ℕ) (state : Value) (limit : ℕ) (found : Option Candidate) → found ≡ slice_get (latest (last_of_each w limit (enumerate_from 0 inputs))) 0 → found ≡ None
    → None ≡ last_step w udp inputs state (latest (last_of_each w limit (enumerate_from 0 inputs)))
no-step w udp inputs state limit found f e = at (latest (last_of_each w limit (enumerate_from 0 inputs))) (sym f ∙ e)
  where
    at : (cs : List Candidate) → slice_get cs 0 ≡ None → None ≡ last_step w udp inputs state cs
    at [] h = refl
    at (c ∷ cs) h = absurd (none-some (sym h))

pub the-step : (w : Waveform) (udp : Primitive) (inputs : List ℕ) (state : Value) (limit : ℕ) (first : Candidate) (old new : List Value) (steps : List Bool) → Some first ≡ slice_get (latest (last_of_each w limit (enumerate_from 0 inputs))) 0
    → old ≡ map (λ n. value_before w n (time_of first)) inputs → new ≡ map (λ n. value_before w n (time_of first + 1)) inputs → AreSteps udp old new state steps
    → last_by steps (filter_map (last_at w limit (time_of first)) (enumerate_from 0 inputs)) ≡ last_step w udp inputs state (latest (last_of_each w limit (enumerate_from 0 inputs)))
the-step w udp inputs state limit first old new steps f o n are =
    let numbered = enumerate_from 0 inputs in
    let cs = last_of_each w limit numbered in
    let s = time_of first in
    let own : latest cs ≡ filter_map (last_at w limit s) numbered = latest-at cs first (sym f) ∙ at-time w limit s numbered in
    let many : length old ≡ length inputs = ap length o ∙ length-map inputs (λ n. value_before w n s) in
    let below = inputs-below w limit s 0 (length old) inputs (omega (arith, many)) in
    let flags = filter-same (λ (c : Candidate). slice_index_or steps c.input false) (λ (c : Candidate). is_step udp (map (λ n. value_before w n s) inputs) (map (λ n. value_before w n (s + 1)) inputs) state c.input)
    (filter_map (last_at w limit s) numbered)
    (each-weaker (λ (c : Candidate). c.input < length old) _ (filter_map (last_at w limit s) numbered)
    (λ c l. are.each c.input l ∙ (ap (λ vs. is_step udp vs new state c.input) o ∙ ap (λ vs. is_step udp (map (λ n. value_before w n s) inputs) vs state c.input) n)) below) in
    ap (last_or (last_or None (filter_map (last_at w limit s) numbered))) flags ∙ at (latest cs) (sym own) (sym f)
  where
    head : (c first : Candidate) → Some c ≡ Some first → c ≡ first
    head c first h = some-some h

    at : (ls : List Candidate) → filter_map (last_at w limit (time_of first)) (enumerate_from 0 inputs) ≡ ls → slice_get ls 0 ≡ Some first
        → last_or (last_or None (filter_map (last_at w limit (time_of first)) (enumerate_from 0 inputs))) (filter (λ (c : Candidate). is_step udp (map (λ n. value_before w n (time_of first)) inputs) (map (λ n. value_before w n (time_of first + 1)) inputs) state c.input)
        (filter_map (last_at w limit (time_of first)) (enumerate_from 0 inputs)))
        ≡ last_step w udp inputs state ls
    at [] e h = absurd (none-some h)
    at (c ∷ cs) e h =
        ap (λ ls. last_or (last_or None ls) (stepping w udp inputs state (time_of first) ls)) e
        ∙ ap (λ (d : Candidate). last_or (last_or None (c ∷ cs)) (stepping w udp inputs state (time_of d) (c ∷ cs))) (sym (head c first h))
