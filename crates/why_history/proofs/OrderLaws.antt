-- The events of a run: by times that don't fall, before its end, and of nets that there are.
use Rattle.std.specs.Prelude.{◌≡◌, ℕ, zero, suc, ◌+◌, ◌^◌, ◌<◌, ◌≤◌, ◌==◌, Bool, true, false, not, if◌then◌else◌, All, List, [], ◌∷◌, ◌++◌, length, map, flat_map, ◌⊎◌, refl}
use Rattle.std.specs.List.{AllByRecursion, AllPairs}
use Rattle.std.proofs.Common.{sym, ◌∙◌, ap, subst, arith, append-nil, inl, inr}
use Rattle.std.proofs.lemmas.Grind.{flat_map-append}
use Rattle.std.proofs.lemmas.Bool.Decides.{nat_tests}
use Rattle.sg_logic.specs.declared.values.Value.{Value}
use Rattle.sg_logic.specs.declared.values.Value.TheVariants.{X}
use Rattle.sg_logic.specs.Values.{is_same}
use Rattle.sg_model.specs.Machine.{Machine, Snapshot, State}
use Rattle.sg_model.specs.Values.{value_at}
use Rattle.sg_model.specs.Time.{Run, Ended, Whole, Spent, time_of}
use Rattle.sg_model.specs.Run.{times_from, go_on, lasts}
use Rattle.sg_model.proofs.SnapshotLaws.{AreBefore, AddsSnapshots, rounds-snapshots, time-lasts, time-before}
use Rattle.fan_round.specs.Lists.{IsListOf, occurrences}
use Rattle.fan_round.specs.Nets.{differs}
use Rattle.sim_times.specs.Watching.{AreCalls, IsCall, AreDifferences, Call, NetChange, none_yet, at_zero, same_again, one_more}
use Rattle.sim_times.specs.Runs.{Setting, run_for, start_of}
use Rattle.wave_out.proofs.RunLaws.{IsLong, long_times, long_lasts}
use Rattle.why_causes.specs.declared.events.Event.{Event}
use Rattle.why_history.specs.Events.{AreEvents, events, events_of, events_at}

-- times before a bound, the latest first, each once
abbrev AllBelow : ℕ → List Snapshot → Type 0
AllBelow bound ss = AllByRecursion (λ (s : Snapshot). s.time < bound) ss

abbrev Falls : List Snapshot → Type 0
Falls [] = Unit {0}
Falls (s ∷ older) = AllBelow s.time older × Falls older

each-weaker : {A : Type 0} (P Q : A → Type 0) (xs : List A) → ((x : A) → P x → Q x) → AllByRecursion P xs → AllByRecursion Q xs
each-weaker P Q [] f h = tt
each-weaker P Q (x ∷ xs) f h = (f x h.0, each-weaker P Q xs f h.1)

each-append : {A : Type 0} (P : A → Type 0) (xs ys : List A) → AllByRecursion P xs → AllByRecursion P ys → AllByRecursion P (xs ++ ys)
each-append P [] ys h k = k
each-append P (x ∷ xs) ys h k = (h.0, each-append P xs ys h.1 k)

below-more : (bound more : ℕ) (ss : List Snapshot) → bound ≤ more → AllBelow bound ss → AllBelow more ss
below-more bound more ss l h = each-weaker (λ (s : Snapshot). s.time < bound) (λ (s : Snapshot). s.time < more) ss (λ s k. omega (arith, l, k)) h

-- the last snapshots of some times more
falls-on : (left bound : ℕ) (m : Machine) (sets : ℕ → List (ℕ × Value)) (now : ℕ) (r : Run) → AreBefore r.snapshots now → AllBelow now (lasts r.snapshots) → Falls (lasts r.snapshots)
    → AllBelow (now + left) (lasts (times_from left bound m sets now r).run.snapshots) × Falls (lasts (times_from left bound m sets now r).run.snapshots)
unfolding times_from
falls-on zero bound m sets now r b h k = (below-more now (now + 0) (lasts r.snapshots) (omega arith) h, k)
falls-on (suc left) bound m sets now r b h k = at (time_of bound m sets now r) refl (λ x. falls-on left bound m sets (suc now) x)
  where
    at : (e : Ended) → time_of bound m sets now r ≡ e
        → ((x : Run) → AreBefore x.snapshots (suc now) → AllBelow (suc now) (lasts x.snapshots) → Falls (lasts x.snapshots)
        → AllBelow (suc now + left) (lasts (times_from left bound m sets (suc now) x).run.snapshots) × Falls (lasts (times_from left bound m sets (suc now) x).run.snapshots))
        → AllBelow (now + suc left) (lasts (go_on e r now (λ x. times_from left bound m sets (suc now) x)).run.snapshots) × Falls (lasts (go_on e r now (λ x. times_from left bound m sets (suc now) x)).run.snapshots)
    at (Spent net evaluations) e rest = (below-more now (now + suc left) (lasts r.snapshots) (omega arith) h, k)
    at (Whole next) e rest =
        let a : AddsSnapshots now r next = rounds-snapshots bound m now (now == 0) (sets now) r next e in
        let s : Snapshot = record { time = now; values = next.state.values } in
        let is : lasts next.snapshots ≡ s ∷ lasts r.snapshots = time-lasts now r next a b in
        let more = rest next (time-before now (suc now) r next a (omega arith))
        (subst (AllBelow (suc now)) (sym is) (omega arith, below-more now (suc now) (lasts r.snapshots) (omega arith) h)) (subst Falls (sym is) (h, k)) in
        (below-more (suc now + left) (now + suc left) _ (omega arith) more.0, more.1)

-- what is so of events, and stays so with later ones
abbrev Rise : List Event → Type 0
Rise [] = Unit {0}
Rise (e ∷ es) = AllByRecursion (λ (f : Event). e.time ≤ f.time) es × Rise es

record AreIn (nets bound : ℕ) (es : List Event) : Type 0 where
  pub nets_in : AllByRecursion (λ (e : Event). e.net < nets) es
  pub times_in : AllByRecursion (λ (e : Event). e.time < bound) es
  pub rise : Rise es

-- those of one time
at-once-each : (time : ℕ) (cs : List NetChange) → AllByRecursion (λ (e : Event). time ≤ e.time) (events_at time cs)
at-once-each time [] = tt
at-once-each time (c ∷ cs) = (omega arith, at-once-each time cs)

at-once : (time nets bound : ℕ) (cs : List NetChange) → time < bound → AllByRecursion (λ (c : NetChange). c.net < nets) cs → AreIn nets bound (events_at time cs)
at-once time nets bound [] l h = record { nets_in = tt; times_in = tt; rise = tt }
at-once time nets bound (c ∷ cs) l h =
    let rest = at-once time nets bound cs l h.1 in
    record { nets_in = (h.0, rest.nets_in); times_in = (l, rest.times_in); rise = (at-once-each time cs, rest.rise) }

rise-append : (time : ℕ) (es : List Event) (cs : List NetChange) → AllByRecursion (λ (e : Event). e.time < time) es → Rise es → Rise (events_at time cs) → Rise (es ++ events_at time cs)
rise-append time [] cs b r k = k
rise-append time (e ∷ es) cs b r k = (
  each-append (λ (f : Event). e.time ≤ f.time) es (events_at time cs) r.0 (each-weaker (λ (f : Event). time ≤ f.time) (λ (f : Event). e.time ≤ f.time) (events_at time cs) (λ f l. omega (arith, l, b.0)) (at-once-each time cs)),
  rise-append time es cs b.1 r.1 k,
)

-- a net that differs is one of so many
less-or : (k n : ℕ) → (k < n) ⊎ (n ≤ k)
less-or zero zero = inr (omega arith)
less-or zero (suc n) = inl (omega arith)
less-or (suc k) zero = inr (omega arith)
less-or (suc k) (suc n) = elim (less-or k n) [ inl l ↦ inl (omega (arith, l)) | inr l ↦ inr (omega (arith, l)) ]

past-end : (values : List Value) (n : ℕ) → length values ≤ n → value_at values n ≡ X
past-end [] n l = refl
past-end (v ∷ vs) zero l = absurd (omega (arith, l))
past-end (v ∷ vs) (suc n) l = past-end vs n (omega (arith, l))

below-length : (before after : List Value) (nets k : ℕ) → length before ≡ nets → length after ≡ nets → differs before after k ≡ true → k < nets
below-length before after nets k b a d = elim (less-or k nets) [
  | inl less ↦ less
  | inr past ↦ absurd (clash (past-end before k (omega (arith, past, b))) (past-end after k (omega (arith, past, a))) d)
]
  where
    clash : value_at before k ≡ X → value_at after k ≡ X → not (is_same (value_at before k) (value_at after k)) ≡ true → ⊥
    clash e f g = let h : not (is_same X X) ≡ true = sym (ap (λ v. not (is_same v (value_at after k))) e ∙ ap (λ v. not (is_same X v)) f) ∙ g in cc

each-in : (P : ℕ → Type 0) (all ks : List ℕ) → ((k : ℕ) → occurrences k ks ≤ occurrences k all) → ((k : ℕ) → 0 < occurrences k all → P k) → AllByRecursion P ks
each-in P all [] l f = tt
each-in P all (x ∷ xs) l f = (f x (let h = head in let m = l x in omega (arith, h, m)), each-in P all xs (λ k. let t = tail k in let m = l k in omega (arith, t, m)) f)
  where
    head : 0 < occurrences x (x ∷ xs)
    head = let t : (x == x) ≡ true = grind (arith, nat_tests) in subst (λ b. 0 < (if b then 1 else 0) + occurrences x xs) (sym t) (omega arith)

    tail : (k : ℕ) → occurrences k xs ≤ occurrences k (x ∷ xs)
    tail k = at (x == k)
      where
        at : (b : Bool) → occurrences k xs ≤ (if b then 1 else 0) + occurrences k xs
        at true = omega arith
        at false = omega arith

each-unmapped : (P : ℕ → Type 0) (cs : List NetChange) → AllByRecursion P (map (λ (c : NetChange). c.net) cs) → AllByRecursion (λ (c : NetChange). P c.net) cs
each-unmapped P [] h = tt
each-unmapped P (c ∷ cs) h = (h.0, each-unmapped P cs h.1)

changed-in : (before after : List Value) (nets : ℕ) (cs : List NetChange) → length before ≡ nets → length after ≡ nets → AreDifferences before after cs → AllByRecursion (λ (c : NetChange). c.net < nets) cs
changed-in before after nets cs b a are =
    let ks = map (λ (c : NetChange). c.net) cs in
    each-unmapped (λ k. k < nets) cs (each-in (λ k. k < nets) ks ks (λ k. omega arith) (λ k l. below-length before after nets k b a (at k (differs before after k) refl (are.nets.each k) l)))
  where
    at : (k : ℕ) (t : Bool) → differs before after k ≡ t → occurrences k (map (λ (c : NetChange). c.net) cs) ≡ (if t then 1 else 0) → 0 < occurrences k (map (λ (c : NetChange). c.net) cs) → t ≡ true
    at k true e o l = refl
    at k false e o l = absurd (omega (arith, o, l))

-- the events of the calls of a run
module _ (nets : ℕ) (first : List Value) (long : length first ≡ nets) where
  abbrev Long : List Snapshot → Type 0
  Long ss = AllByRecursion (λ (s : Snapshot). length s.values ≡ nets) ss

  one-call : (before : List Value) (s : Snapshot) (call : Call) (bound : ℕ) → length before ≡ nets → length s.values ≡ nets → s.time < bound → IsCall before s call → AreIn nets bound (events_of call)
  one-call before s call bound b a l is =
      let t : s.time ≡ call.time = sym is.time in
      at-once call.time nets bound call.changed (subst (λ n. n < bound) t l) (changed-in before s.values nets call.changed b a is.changed)

  more-events : (bound : ℕ) (calls : List Call) (call : Call) (time : ℕ) → call.time ≡ time → time < bound → AreIn nets time (events calls) → AreIn nets bound (events_of call) → AreIn nets bound (events (calls ++ call ∷ []))
  more-events bound calls call time t l h k =
      let is : events (calls ++ call ∷ []) ≡ events calls ++ events_of call = flat_map-append events_of calls (call ∷ []) ∙ ap (λ es. events calls ++ es) (append-nil (events_of call)) in
      subst (AreIn nets bound) (sym is) (record {
        nets_in = each-append (λ (e : Event). e.net < nets) (events calls) (events_of call) h.nets_in k.nets_in;
        times_in = each-append (λ (e : Event). e.time < bound) (events calls) (events_of call) (each-weaker (λ (e : Event). e.time < time) (λ (e : Event). e.time < bound) (events calls) (λ e m. omega (arith, m, l)) h.times_in) k.times_in;
        rise = rise-append call.time (events calls) call.changed (subst (λ n. AllByRecursion (λ (e : Event). e.time < n) (events calls)) (sym t) h.times_in) h.rise k.rise;
      })

  calls-in : (ss : List Snapshot) (calls : List Call) (bound : ℕ) → Long ss → AllBelow bound ss → Falls ss → AreCalls first ss calls → AreIn nets bound (events calls)
  calls-in ss calls bound h b f none_yet = record { nets_in = tt; times_in = tt; rise = tt }
  calls-in ss calls bound h b f (at_zero s call is) = subst (AreIn nets bound) (sym (append-nil (events_of call))) (one-call first s call bound long h.0 b.0 is)
  calls-in ss calls bound h b f (same_again s t older cs same more) = calls-in (t ∷ older) cs bound h.1 b.1 f.1 more
  calls-in ss calls bound h b f (one_more s t older cs call other more is) =
      more-events bound cs call s.time is.time b.0 (calls-in (t ∷ older) cs s.time h.1 f.0 f.1 more) (one-call t.values s call bound h.1.0 h.0 b.0 is)

-- by place
each-of : {A : Type 0} (P : A → Type 0) (xs : List A) → AllByRecursion P xs → All P xs
each-of P [] h k d l = absurd (omega (arith, l))
each-of P (x ∷ xs) h zero d l = h.0
each-of P (x ∷ xs) h (suc k) d l = each-of P xs h.1 k d (omega (arith, l))

by-recursion : {A : Type 0} (P : A → Type 0) (xs : List A) → All P xs → AllByRecursion P xs
by-recursion P [] h = tt
by-recursion P (x ∷ xs) h = (h 0 x (omega arith), by-recursion P xs (λ k d l. h (suc k) d (omega (arith, l))))

pairs-of : (es : List Event) → Rise es → AllPairs (λ d e. d.time ≤ e.time) es
pairs-of [] h i j d l m = absurd (omega (arith, m))
pairs-of (e ∷ es) h zero zero d l m = absurd (omega (arith, l))
pairs-of (e ∷ es) h zero (suc j) d l m = each-of (λ (f : Event). e.time ≤ f.time) es h.0 j d (omega (arith, m))
pairs-of (e ∷ es) h (suc i) zero d l m = absurd (omega (arith, l))
pairs-of (e ∷ es) h (suc i) (suc j) d l m = pairs-of es h.1 i j d (omega (arith, l)) (omega (arith, m))

-- of a run
start_long : (first : State) → IsLong (length first.values) (start_of first)
start_long first = record { values = refl; snapshots = λ i d l. absurd (omega (arith, l)) }

pub record InOrder (s : Setting) (found : List Event) : Type 0 where
  pub nets : All (λ e. e.net < length s.first.values) found
  pub times : All (λ e. e.time ≤ s.end) found
  pub rise : AllPairs (λ d e. d.time ≤ e.time) found

pub in-order : (s : Setting) (found : List Event) → AreEvents s.first.values (run_for s (suc s.end)) found → InOrder s found
in-order s found are =
    let n = length s.first.values in
    let ss = lasts (run_for s (suc s.end)).run.snapshots in
    let many : All (λ (x : Snapshot). length x.values ≡ n) ss = long_lasts n (run_for s (suc s.end)).run.snapshots (long_times n (suc s.end) s.bound s.machine s.sets 0 (start_of s.first) (start_long s.first)).snapshots in
    let falls = falls-on (suc s.end) s.bound s.machine s.sets 0 (start_of s.first) tt tt tt in
    let h = calls-in n s.first.values refl ss are.calls (0 + suc s.end) (by-recursion (λ (x : Snapshot). length x.values ≡ n) ss many) falls.0 falls.1 are.are_calls in
    let k : AreIn n (0 + suc s.end) found = subst (AreIn n (0 + suc s.end)) (sym are.are_theirs) h in
    record {
      nets = each-of (λ (e : Event). e.net < n) found k.nets_in;
      times = each-of (λ (e : Event). e.time ≤ s.end) found (each-weaker (λ (e : Event). e.time < 0 + suc s.end) (λ (e : Event). e.time ≤ s.end) found (λ e l. omega (arith, l)) k.times_in);
      rise = pairs-of found k.rise;
    }

-- of nets with these values before time 0, before a bound, and by times that don't fall
pub nets_in : (s : Setting) (first : List Value) (found : List Event) → first ≡ s.first.values → AreEvents s.first.values (run_for s (suc s.end)) found → All (λ e. e.net < length first) found
nets_in s first found is are = subst (λ vs. All (λ (e : Event). e.net < length vs) found) (sym is) (in-order s found are).nets

pub times_in : (s : Setting) (found : List Event) → s.end < 2 ^ 60 → AreEvents s.first.values (run_for s (suc s.end)) found → All (λ e. e.time < 2 ^ 60) found
times_in s found fits are k d l = let m = (in-order s found are).times k d l in omega (arith, m, fits)

pub rise_in : (s : Setting) (found : List Event) → AreEvents s.first.values (run_for s (suc s.end)) found → AllPairs (λ d e. d.time ≤ e.time) found
rise_in s found are = (in-order s found are).rise
