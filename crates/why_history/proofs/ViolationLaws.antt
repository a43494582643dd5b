-- The violations of a run are of checks that there are, at times up to its end.
use Rattle.std.specs.Prelude.{◌≡◌, ℕ, zero, suc, ◌+◌, ◌-◌, ◌<◌, ◌≤◌, ◌==◌, ◌^◌, ℤ, Bool, true, false, cond, filter, nat_le, All, List, [], ◌∷◌, length, map, option_map, Option, Some, None, refl}
use Rattle.std.proofs.Common.{sym, ◌∙◌, subst, arith}
use Rattle.std.proofs.lemmas.List.{length-map}
use Rattle.std.proofs.lemmas.List.FromFn.{length-enumerate_from}
use Rattle.std.proofs.lemmas.List.Elements.{All-append, All-cons, All-head, All-nil, All-tail, All-weaker}
use Rattle.std.specs.List.{enumerate_from}
use Rattle.sg_logic.specs.declared.values.Value.{Value}
use Rattle.sg_circuit.specs.Circuit.{Circuit}
use Rattle.sg_circuit.specs.declared.checks.Event.{Event}
use Rattle.sg_circuit.proofs.SeenLaws.{all-unmapped}
use Rattle.sg_model.specs.Machine.{Snapshot, Violation}
use Rattle.sg_model.specs.Time.{Run, Ended, Whole, Spent, flips_of, time_of, with_round, with_snapshot}
use Rattle.sg_model.specs.Run.{times_from}
use Rattle.sg_model.proofs.PlacedLaws.{if_fact}
use Rattle.sg_model.proofs.RunSteps.{times-none, times-spent, times-whole}
use Rattle.sg_stimulus.specs.Stimulus.{Stimulus, sets_at}
use Rattle.time_checks.specs.Adjusted.{AdjustedCheck, adjusted_check, adjusted_checks}
use Rattle.time_checks.specs.Events.{datum_times_since, event_times_since, happens, moment_since, no_events}
use Rattle.time_checks.specs.Falling.{IsBy}
use Rattle.time_checks.specs.Parts.{parts_of}
use Rattle.time_checks.specs.Seen.{violation_seen}
use Rattle.time_checks.specs.Times.{greater, greatest, greatest_of}
use Rattle.time_checks.specs.Violations.{all_from, limit_at, listed, violations_at, violations_since, window_at}
use Rattle.time_checks.specs.Windows.{Moment, Pair, hold_of_datum, hold_of_refer, later_of, since, violated, where_true}
use Rattle.time_checks.specs.declared.violations.Part.{Part}
use Rattle.time_checks.specs.declared.violations.Part.TheVariants.{Setup, Hold, Recovery, Removal, Width, Period, Skew}
use Rattle.time_checks.specs.declared.violations.Violation as code_violation
use Rattle.sim_machine.specs.Simulated.{first_state, machine_of, run_of_circuit}
use Rattle.sim_rounds.proofs.RunInvariants.{rounds_reach}
use Rattle.why_history.specs.Bounds.{IsBounded}

-- times of events up to the latest snapshot
greater_by : (time t : ℕ) (o : Option ℕ) → t ≤ time → IsBy time o → IsBy time (greater t o)
greater_by time t None l h = l
greater_by time t (Some u) l h = let m : u ≤ time = h in omega arith

greatest_by : (time : ℕ) (ts : List ℕ) → All (λ t. t ≤ time) ts → IsBy time (greatest ts)
greatest_by time [] h = tt
greatest_by time (t ∷ ts) h = greater_by time t (greatest ts) (All-head (λ x. x ≤ time) t ts h) (greatest_by time ts (All-tail (λ x. x ≤ time) t ts h))

filter_by : (test : ℕ → Bool) (time : ℕ) (ts : List ℕ) → All (λ t. t ≤ time) ts → All (λ t. t ≤ time) (filter test ts)
filter_by test time [] h = All-nil (λ x. x ≤ time)
filter_by test time (t ∷ ts) h =
    let rest = filter_by test time ts (All-tail (λ x. x ≤ time) t ts h) in
    elim (test t) as (λ b. All (λ x. x ≤ time) (cond b (t ∷ filter test ts) (filter test ts))) [
      | true ↦ All-cons (λ x. x ≤ time) t (filter test ts) (All-head (λ x. x ≤ time) t ts h) rest
      | false ↦ rest
    ]

passing_by : (test : ℕ → Bool) (time : ℕ) (ts : List ℕ) → All (λ t. t ≤ time) ts → IsBy time (greatest_of test ts)
passing_by test time ts h = greatest_by time (filter test ts) (filter_by test time ts h)

events_by : (time : ℕ) (event : Event) (snapshots : List Snapshot) → All (λ s. s.time ≤ time) snapshots → All (λ t. t ≤ time) (event_times_since None event snapshots)
events_by time event [] h = All-nil (λ t. t ≤ time)
events_by time event (s ∷ ss) h =
    let rest = events_by time event ss (All-tail (λ (x : Snapshot). x.time ≤ time) s ss h) in
    let ts : List ℕ = event_times_since None event ss in
    if_fact (λ us. All (λ t. t ≤ time) us) (happens event (s ∷ ss)) (s.time ∷ ts) ts (λ _. All-cons (λ t. t ≤ time) s.time ts (All-head (λ (x : Snapshot). x.time ≤ time) s ss h) rest) (λ _. rest)

data_by : (time : ℕ) (datum : Option Event) (snapshots : List Snapshot) → All (λ s. s.time ≤ time) snapshots → All (λ t. t ≤ time) (datum_times_since None datum snapshots)
data_by time None snapshots h = All-nil (λ t. t ≤ time)
data_by time (Some event) snapshots h = events_by time event snapshots h

-- pairs of such times
abbrev AreBoth : ℕ → Option Pair → Type 0
AreBoth time None = Unit {0}
AreBoth time (Some pair) = (pair.0 ≤ time) × (pair.1 ≤ time)

where_by : (time : ℕ) (b : Bool) (pair : Option Pair) → AreBoth time pair → AreBoth time (where_true b pair)
where_by time b pair h = if_fact (λ p. AreBoth time p) b pair None (λ _. h) (λ _. tt)

first_by : (time now : ℕ) (o : Option ℕ) → now ≤ time → IsBy time o → AreBoth time (option_map (λ t. (now, t)) o)
first_by time now None l h = tt
first_by time now (Some t) l h = (l, h)

second_by : (time now : ℕ) (o : Option ℕ) → now ≤ time → IsBy time o → AreBoth time (option_map (λ t. (t, now)) o)
second_by time now None l h = tt
second_by time now (Some t) l h = (h, l)

since_by : (time now : ℕ) (passes : ℕ → Bool) (o : Option ℕ) → now ≤ time → IsBy time o → AreBoth time (since passes o now)
since_by time now passes None l h = tt
since_by time now passes (Some t) l h = if_fact (λ p. AreBoth time p) (passes t) (Some (t, now)) None (λ _. (h, l)) (λ _. tt)

later_by : (time : ℕ) (p q : Option Pair) → AreBoth time p → AreBoth time q → AreBoth time (later_of p q)
later_by time None q h k = k
later_by time (Some p) None h k = h
later_by time (Some p) (Some q) h k = if_fact (λ o. AreBoth time o) (nat_le q.0 p.0) (Some p) (Some q) (λ _. h) (λ _. k)

-- what a check sees at a time
record IsSeenBy (time : ℕ) (now : Moment) : Type 0 where
  here : now.time ≤ time
  refer : All (λ t. t ≤ time) now.refer_times
  datum : All (λ t. t ≤ time) now.datum_times
  before : All (λ t. t ≤ time) now.refer_before

hold_by : (time limit : ℕ) (now : Moment) → IsSeenBy time now → AreBoth time (later_of (hold_of_refer limit now) (hold_of_datum limit now))
hold_by time limit now h =
    later_by time (hold_of_refer limit now) (hold_of_datum limit now)
    (where_by time now.refer _ (first_by time now.time _ h.here (passing_by _ time now.datum_times h.datum)))
    (where_by time now.datum _ (second_by time now.time _ h.here (passing_by _ time now.refer_times h.refer)))

violated_by : (time : ℕ) (part : Part) (limit : ℤ) (threshold : ℕ) (now : Moment) → IsSeenBy time now → AreBoth time (violated part limit threshold now)
violated_by time Setup limit threshold now h = where_by time now.refer _ (first_by time now.time _ h.here (passing_by _ time now.datum_times h.datum))
violated_by time Hold limit threshold now h = hold_by time _ now h
violated_by time Recovery limit threshold now h = hold_by time _ now h
violated_by time Removal limit threshold now h = where_by time now.refer _ (first_by time now.time _ h.here (passing_by _ time now.datum_times h.datum))
violated_by time Width limit threshold now h = where_by time now.back _ (since_by time now.time _ _ h.here (greatest_by time now.refer_before h.before))
violated_by time Period limit threshold now h = where_by time now.refer _ (since_by time now.time _ _ h.here (greatest_by time now.refer_before h.before))
violated_by time Skew limit threshold now h = where_by time now.datum _ (since_by time now.time _ _ h.here (greatest_by time now.refer_times h.refer))

-- a violation of one of so many checks, up to a time
abbrev IsWithin : ℕ → ℕ → Violation → Type 0
IsWithin many time v = (v.check < many) × ((v.refer_time ≤ time) × (v.datum_time ≤ time))

listed_within : (many time number : ℕ) (check : AdjustedCheck) (part : Part) (limit : ℤ) (pair : Option Pair) → number < many → AreBoth time pair → All (λ v. IsWithin many time v) (listed number check part limit pair)
listed_within many time number check part limit None l h = All-nil (λ v. IsWithin many time v)
listed_within many time number check part limit (Some pair) l h =
    let a : pair.0 - check.refer_delay ≤ time = (let k : pair.0 ≤ time = h.0 in omega arith) in
    let b : pair.1 - check.datum_delay ≤ time = (let k : pair.1 ≤ time = h.1 in omega arith) in
    All-cons (λ v. IsWithin many time v) _ [] (l, (a, b)) (All-nil (λ v. IsWithin many time v))

all_given : {A B : Type 0} (P : B → Type 0) (f : ℕ → A → List B) (many i : ℕ) (xs : List A) → ((k : ℕ) (x : A) → k < many → All P (f k x)) → i + length xs ≤ many → All P (all_from f i xs)
all_given P f many i [] h l = All-nil P
all_given P f many i (x ∷ xs) h l = All-append P (f i x) (all_from f (suc i) xs) (h i x (omega arith)) (all_given P f many (suc i) xs h (omega arith))

at_within : (many time number : ℕ) (check : AdjustedCheck) (now : Moment) → number < many → IsSeenBy time now → All (λ v. IsWithin many time v) (violations_at number check now)
at_within many time number check now l h =
    all_given (λ v. IsWithin many time v) _ (length (parts_of check.kind)) 0 (parts_of check.kind)
    (λ place part k. listed_within many time number check part (limit_at check place) _ l (violated_by time part (window_at check place) check.threshold now h)) (omega arith)

found_within : (time : ℕ) (checks : List AdjustedCheck) (snapshots : List Snapshot) → All (λ s. s.time ≤ time) snapshots → All (λ v. IsWithin (length checks) time v) (violations_since [] checks snapshots)
found_within time checks [] h = All-nil (λ v. IsWithin (length checks) time v)
found_within time checks (now ∷ older) h =
    let before : All (λ s. s.time ≤ time) older = All-tail (λ (x : Snapshot). x.time ≤ time) now older h in
    all_given (λ v. IsWithin (length checks) time v) _ (length checks) 0 checks
    (λ number check l. at_within (length checks) time number check (moment_since no_events check now older) l (record {
      here = All-head (λ (x : Snapshot). x.time ≤ time) now older h;
      refer = events_by time check.refer (now ∷ older) h;
      datum = data_by time check.datum (now ∷ older) h;
      before = events_by time check.refer older before;
    })) (omega arith)

-- a run up to a time
record IsRunBy (c : Circuit) (time : ℕ) (r : Run) : Type 0 where
  seen : All (λ s. s.time ≤ time) r.snapshots
  found : All (λ v. IsWithin (length (adjusted_checks c)) time v) r.violations

snapshot_keeps : (c : Circuit) (time now : ℕ) (r : Run) → now ≤ time → IsRunBy c time r → IsRunBy c time (with_snapshot (machine_of c) now r)
snapshot_keeps c time now r l h =
    let snapshots : List Snapshot = record { time = now; values = r.state.values } ∷ r.snapshots in
    let seen : All (λ s. s.time ≤ time) snapshots = All-cons (λ (x : Snapshot). x.time ≤ time) (record { time = now; values = r.state.values }) r.snapshots l h.seen in
    record { seen = seen; found = All-append (λ v. IsWithin (length (adjusted_checks c)) time v) r.violations ((machine_of c).violated snapshots) h.found (found_within time (adjusted_checks c) snapshots seen) }

round_keeps : (c : Circuit) (time now : ℕ) (all : Bool) (handed : List (ℕ × Value)) (r : Run) → IsRunBy c time r → IsRunBy c time (with_round (machine_of c) now all handed r)
round_keeps c time now all handed r h = record { seen = h.seen; found = h.found }

time_keeps : (c : Circuit) (time bound now : ℕ) (sets : ℕ → List (ℕ × Value)) (r next : Run) → now ≤ time → IsRunBy c time r → time_of bound (machine_of c) sets now r ≡ Whole next → IsRunBy c time next
time_keeps c time bound now sets r next l h e =
    rounds_reach (IsRunBy c time) (IsRunBy c time) (machine_of c) now
    (λ q k none. snapshot_keeps c time now q l k)
    (λ q k. round_keeps c time now false [] q k)
    (λ q k. round_keeps c time now false (flips_of (machine_of c) (with_snapshot (machine_of c) now q)) (with_snapshot (machine_of c) now q) (snapshot_keeps c time now q l k))
    bound (now == 0) (sets now) r next
    (λ f. round_keeps c time now (now == 0) (sets now) r h)
    (λ f. h) e

times_keep : (c : Circuit) (time bound : ℕ) (sets : ℕ → List (ℕ × Value)) (left now : ℕ) (r : Run) → now + left ≤ suc time → IsRunBy c time r → IsRunBy c time (times_from left bound (machine_of c) sets now r).run
times_keep c time bound sets zero now r l h = subst (λ f. IsRunBy c time f.run) (sym (times-none bound (machine_of c) sets now r)) h
times_keep c time bound sets (suc left) now r l h = at (time_of bound (machine_of c) sets now r) refl (λ q k. times_keep c time bound sets left (suc now) q (omega arith) k)
  where
    at : (e : Ended) → time_of bound (machine_of c) sets now r ≡ e → ((q : Run) → IsRunBy c time q → IsRunBy c time (times_from left bound (machine_of c) sets (suc now) q).run) → IsRunBy c time (times_from (suc left) bound (machine_of c) sets now r).run
    at (Spent net evaluations) e rest = subst (λ f. IsRunBy c time f.run) (sym (times-spent left bound (machine_of c) sets now r net evaluations e)) h
    at (Whole next) e rest = subst (λ f. IsRunBy c time f.run) (sym (times-whole left bound (machine_of c) sets now r next e)) (rest next (time_keeps c time bound now sets r next (omega arith) h e))

run_within : (c : Circuit) (bound : ℕ) (stimulus : Stimulus) → All (λ v. IsWithin (length (adjusted_checks c)) stimulus.end v) (run_of_circuit c bound stimulus).run.violations
run_within c bound stimulus =
    (times_keep c stimulus.end bound (sets_at stimulus.steps) (suc stimulus.end) 0 (record { state = first_state c; snapshots = []; violations = []; before = (first_state c).values; evaluations = 0 }) (omega arith)
    (record { seen = All-nil (λ (x : Snapshot). x.time ≤ stimulus.end); found = All-nil (λ v. IsWithin (length (adjusted_checks c)) stimulus.end v) })).found

pub all_bounded : (c : Circuit) (bound : ℕ) (stimulus : Stimulus) (vs : List code_violation.Violation) → stimulus.end < 2 ^ 60 → map (λ v. violation_seen v) vs ≡ (run_of_circuit c bound stimulus).run.violations → All (λ v. IsBounded c v) vs
all_bounded c bound stimulus vs soon are =
    let many : length (adjusted_checks c) ≡ length c.check_timings = length-map (enumerate_from 0 c.check_timings) (adjusted_check c) ∙ length-enumerate_from 0 c.check_timings in
    let theirs : All (λ v. IsWithin (length (adjusted_checks c)) stimulus.end v) (map (λ v. violation_seen v) vs) = subst (λ ws. All (λ v. IsWithin (length (adjusted_checks c)) stimulus.end v) ws) (sym are) (run_within c bound stimulus) in
    All-weaker (λ (v : code_violation.Violation). IsWithin (length (adjusted_checks c)) stimulus.end (violation_seen v)) (λ v. IsBounded c v)
    (λ v h. (subst (λ n. v.check < n) many h.0, (let k : v.refer_time ≤ stimulus.end = h.1.0 in omega arith), (let k : v.datum_time ≤ stimulus.end = h.1.1 in omega arith)))
    vs (all-unmapped (λ v. IsWithin (length (adjusted_checks c)) stimulus.end v) (λ v. violation_seen v) vs theirs)
