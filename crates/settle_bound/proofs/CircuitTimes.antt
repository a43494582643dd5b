-- The machine of a circuit meets the deadlines that bounds give, whatever the stimulus.
use Rattle.std.specs.Prelude.{◌≡◌, ◌≢◌, ◌⊎◌, ℕ, ℤ, zero, suc, ◌+◌, ◌<◌, ◌≤◌, ◌==◌, max, Bool, true, false, if◌then◌else◌, All, Contains, is_some, List, [], ◌∷◌, length, map, slice_index_or, Option, Some, None, refl}
use Rattle.std.proofs.Common.{sym, ◌∙◌, ap, subst, arith, inl, inr, zero-add}
use Rattle.std.specs.List.{enumerate_from}
use Rattle.std.proofs.lemmas.Bool.{or_cases}
use Rattle.std.proofs.lemmas.Bool.Decides.{nat_tests}
use Rattle.std.proofs.lemmas.List.{length-map, get_or-map, get_or_default}
use Rattle.std.proofs.lemmas.List.FromFn.{length-enumerate_from}
use Rattle.std.proofs.lemmas.List.Elements.{All-nil, All-cons, All-head, All-tail, All-weaker, All-append}
use Rattle.sg_logic.specs.declared.values.Value.{Value}
use Rattle.sg_logic.specs.Values.{is_same}
use Rattle.sg_model.specs.Values.{value_at}
use Rattle.sg_model.specs.Agenda.{list_at}
use Rattle.sg_model.specs.Machine.{Stamp, Snapshot, Violation}
use Rattle.sg_model.proofs.PlacedLaws.{same-true, same-false}
use Rattle.sg_circuit.specs.Circuit.{Circuit, Element as CircuitElement, Pass, element_at}
use Rattle.sg_circuit.specs.Closed.{IsClosed}
use Rattle.sg_circuit.specs.declared.checks.Check as check_type
use Rattle.sg_circuit.specs.declared.checks.Event.{Event}
use Rattle.sg_stimulus.specs.Stimulus.{Step, sets_at}
use Rattle.time_checks.specs.Adjusted.{AdjustedCheck, adjusted_check, adjusted_checks}
use Rattle.time_checks.specs.Checking.{check_at}
use Rattle.time_checks.specs.Events.{moment, no_events}
use Rattle.time_checks.specs.Quiet.{IsUntouched, StaysSame}
use Rattle.time_checks.specs.Parts.{parts_of}
use Rattle.time_checks.specs.Violations.{all_from, listed, limit_at, window_at, violations_at, violations}
use Rattle.time_checks.specs.Windows.{Pair, Moment, violated}
use Rattle.time_checks.specs.declared.violations.Part.{Part}
use Rattle.time_checks.specs.Within.{datum_nets, terminals}
use Rattle.time_checks.proofs.QuietLaws.{first-none, untouched-none}
use Rattle.sim_rounds.specs.Notifiers.{notifier_at, is_net, is_named, numbers_from, notifiers_of}
use Rattle.sim_rounds.specs.Simulated.{machine_of, first_state}
use Rattle.sim_rounds.proofs.MachineLaws.{lawful, steady, one_driver, notifier_is_no_output, inputs_at, outputs_within, length-outputs}
use Rattle.settle_bound.specs.declared.hops.Hop.TheVariants.{Element, Check}
use Rattle.settle_bound.specs.Hops.{IsHop, longest_delay}
use Rattle.settle_bound.specs.Settling.{AreBounds}
use Rattle.settle_bound.specs.Staying.{time_of_sets, last_set, StayAfter}
use Rattle.settle_bound.proofs.Deadlines.{inputs_of, output_of, IsStamped, MeetsDeadlines, IsNoticed, AreMoved, IsOnTime}
use Rattle.settle_bound.proofs.PendingTimes.{NoneAfter}
use Rattle.settle_bound.proofs.RunTimes.{run-stays}
use Rattle.settle_bound.proofs.ChainLaws.{IsPotential, bounds-rise, notifier-is}
use Rattle.settle_bound.proofs.LongestLaws.{placed-soon}

-- a violated check saw a terminal change
record IsSeen (checks : List AdjustedCheck) (last now : List Value) (v : Violation) : Type 0 where
  known : v.check < length checks
  source : ℕ
  read : Contains (terminals (check_at checks v.check)) source
  changed : value_at last source ≢ value_at now source

record IsTouched (check : AdjustedCheck) (last now : List Value) : Type 0 where
  source : ℕ
  read : Contains (terminals check) source
  changed : value_at last source ≢ value_at now source

datum-or : (datum : Option Event) (refer : ℕ) (last now : List Value) → StaysSame datum last now ⊎ ((source : ℕ) × Contains (refer ∷ datum_nets datum) source × (value_at last source ≢ value_at now source))
datum-or None refer last now = inl tt
datum-or (Some event) refer last now = at (is_same (value_at last event.net) (value_at now event.net)) refl
  where
    at : (b : Bool) → is_same (value_at last event.net) (value_at now event.net) ≡ b
        → (value_at last event.net ≡ value_at now event.net) ⊎ ((source : ℕ) × Contains (refer ∷ event.net ∷ []) source × (value_at last source ≢ value_at now source))
    at true e = inl (same-true (value_at last event.net) (value_at now event.net) e)
    at false e = inr (event.net, (1, omega arith, refl), same-false (value_at last event.net) (value_at now event.net) e)

touched-or : (check : AdjustedCheck) (last now : List Value) → IsUntouched check last now ⊎ IsTouched check last now
touched-or check last now = at (is_same (value_at last check.refer.net) (value_at now check.refer.net)) refl (datum-or check.datum check.refer.net last now)
  where
    at : (b : Bool) → is_same (value_at last check.refer.net) (value_at now check.refer.net) ≡ b → StaysSame check.datum last now ⊎ ((source : ℕ) × Contains (check.refer.net ∷ datum_nets check.datum) source × (value_at last source ≢ value_at now source))
        → IsUntouched check last now ⊎ IsTouched check last now
    at false e d = inr (record { source = check.refer.net; read = (0, omega arith, refl); changed = same-false (value_at last check.refer.net) (value_at now check.refer.net) e })
    at true e (inl d) = inl (record { refer = same-true (value_at last check.refer.net) (value_at now check.refer.net) e; datum = d })
    at true e (inr d) = inr (record { source = d.0; read = d.1; changed = d.2 })

-- violations name the check that has them
all_from-each : {A : Type 0} (P : Violation → Type 0) (f : ℕ → A → List Violation) (i : ℕ) (xs : List A) → ((k : ℕ) (d : A) → k < length xs → All P (f (i + k) (slice_index_or xs k d))) → All P (all_from f i xs)
all_from-each P f i [] h = All-nil P
all_from-each P f i (x ∷ xs) h =
    All-append P (f i x) (all_from f (suc i) xs) (subst (λ n. All P (f n x)) (let e : i + 0 ≡ i = omega arith in e) (h 0 x (omega arith)))
    (all_from-each P f (suc i) xs (λ k d l. subst (λ n. All P (f n (slice_index_or xs k d))) (let e : i + suc k ≡ suc i + k = omega arith in e) (h (suc k) d (omega arith))))

check-named : (number : ℕ) (check : AdjustedCheck) (now : Moment) → All (λ v. v.check ≡ number) (violations_at number check now)
check-named number check now =
    all_from-each (λ v. v.check ≡ number) (λ place part. listed number check part (limit_at check place) (violated part (window_at check place) check.threshold now)) 0 (parts_of check.kind)
    (λ k d l. one (violated (slice_index_or (parts_of check.kind) k d) (window_at check (0 + k)) check.threshold now) (slice_index_or (parts_of check.kind) k d) (limit_at check (0 + k)))
  where
    one : (pair : Option Pair) (part : Part) (limit : ℤ) → All (λ v. v.check ≡ number) (listed number check part limit pair)
    one None part limit = All-nil (λ v. v.check ≡ number)
    one (Some times) part limit = All-cons (λ v. v.check ≡ number) _ [] refl (All-nil (λ v. v.check ≡ number))

violations-seen : (checks : List AdjustedCheck) (now last : Snapshot) (older : List Snapshot) → All (IsSeen checks last.values now.values) (violations checks (now ∷ last ∷ older))
violations-seen checks now last older =
    all_from-each (IsSeen checks last.values now.values) (λ number check. violations_at number check (moment check now (last ∷ older))) 0 checks
    (λ k d l. subst (λ n. All (IsSeen checks last.values now.values) (violations_at n (slice_index_or checks k d) (moment (slice_index_or checks k d) now (last ∷ older)))) (sym (zero-add k)) (one k d l (touched-or (slice_index_or checks k d) last.values now.values)))
  where
    one : (k : ℕ) (d : AdjustedCheck) → k < length checks → IsUntouched (slice_index_or checks k d) last.values now.values ⊎ IsTouched (slice_index_or checks k d) last.values now.values
        → All (IsSeen checks last.values now.values) (violations_at k (slice_index_or checks k d) (moment (slice_index_or checks k d) now (last ∷ older)))
    one k d l (inl u) = subst (λ vs. All (IsSeen checks last.values now.values) vs) (sym (untouched-none no_events k (slice_index_or checks k d) now last older u)) (All-nil (IsSeen checks last.values now.values))
    one k d l (inr t) =
        All-weaker (λ v. v.check ≡ k) (IsSeen checks last.values now.values)
        (λ v e. (let is : check_at checks v.check ≡ slice_index_or checks k d = ap (check_at checks) e ∙ get_or_default checks k _ d l in record {
          known = subst (λ n. n < length checks) (sym e) l;
          source = t.source;
          read = subst (λ (x : AdjustedCheck). Contains (terminals x) t.source) (sym is) t.read;
          changed = t.changed;
        }))
        (violations_at k (slice_index_or checks k d) (moment (slice_index_or checks k d) now (last ∷ older))) (check-named k (slice_index_or checks k d) (moment (slice_index_or checks k d) now (last ∷ older)))

-- a named net is the notifier of a check that is violated
record IsNamedBy (P : Violation → Type 0) (checks : List check_type.Check) (net : ℕ) : Type 0 where
  violation : Violation
  holds : P violation
  notifier : notifier_at checks violation.check ≡ Some net

named-by : (P : Violation → Type 0) (checks : List check_type.Check) (found : List Violation) (net : ℕ) → All P found → is_named checks found net ≡ true → IsNamedBy P checks net
named-by P checks [] net h e = absurd (let f : false ≡ true = e in cc)
named-by P checks (v ∷ vs) net h e = elim (or_cases (is_net net (notifier_at checks v.check)) (is_named checks vs net) e) [
  | inl f ↦ record { violation = v; holds = All-head P v vs h; notifier = that (notifier_at checks v.check) f }
  | inr f ↦ named-by P checks vs net (All-tail P v vs h) f
]
  where
    that : (o : Option ℕ) → is_net net o ≡ true → o ≡ Some net
    that None f = absurd (let g : false ≡ true = f in cc)
    that (Some n) f = let q : n ≡ net = grind (arith, nat_tests, f) in ap (λ x. Some x) q

numbers-each : (P : ℕ → Type 0) (test : ℕ → Bool) (k n : ℕ) → ((m : ℕ) → test m ≡ true → P m) → All P (numbers_from test k n)
numbers-each P test k zero h = All-nil P
numbers-each P test k (suc n) h = at (test k) refl (numbers-each P test (suc k) n h)
  where
    at : (b : Bool) → test k ≡ b → All P (numbers_from test (suc k) n) → All P (if b then (k ∷ numbers_from test (suc k) n) else numbers_from test (suc k) n)
    at true e rest = All-cons P k (numbers_from test (suc k) n) (h k e) rest
    at false e rest = rest

-- as many checks are adjusted as there are
length-adjusted : (c : Circuit) → IsClosed c → length (adjusted_checks c) ≡ length c.checks
length-adjusted c closed = length-map (enumerate_from 0 c.check_timings) (adjusted_check c) ∙ (length-enumerate_from 0 c.check_timings ∙ closed.timing_of_each)

noticed-net : (c : Circuit) → IsClosed c → (bound : ℕ → ℕ) → IsPotential c bound → (last : ℕ) (now before : Snapshot) (older : List Snapshot) (net : ℕ) → is_named c.checks (violations (adjusted_checks c) (now ∷ before ∷ older)) net ≡ true
    → IsNoticed (machine_of c) (λ n. last + bound n) before now net
noticed-net c closed bound p last now before older net e =
    let by = named-by (IsSeen (adjusted_checks c) before.values now.values) c.checks (violations (adjusted_checks c) (now ∷ before ∷ older)) net (violations-seen (adjusted_checks c) now before older) e in
    let k : ℕ = by.violation.check in
    let is : IsHop c (Check k) = (subst (λ n. k < n) (length-adjusted c closed) by.holds.known, ap is_some by.notifier) in
    let through = p.behind (Check k) by.holds.source net is by.notifier by.holds.read in
    record {
      undriven = notifier_is_no_output c closed net (notifier-is c closed k net by.notifier).driven;
      source = by.holds.source;
      changed = by.holds.changed;
      sooner = omega arith;
    }

-- the number of an element among those of the machine
known-element : (c : Circuit) (e : ℕ) → e < length (machine_of c).outputs → e < length c.elements
known-element c e l = subst (λ n. e < n) (length-outputs c) l

output-is : (c : Circuit) (e : ℕ) → e < length (machine_of c).outputs → output_of (machine_of c) e ≡ (element_at c e).output
output-is c e l = get_or-map (λ (x : CircuitElement). x.output) c.elements e (record { scope = 0; inputs = []; output = 0; kind = Pass None }) 0 (known-element c e l)

inputs-are : (c : Circuit) (e : ℕ) → inputs_of (machine_of c) e ≡ (element_at c e).inputs
inputs-are c e = inputs_at c.elements e (record { scope = 0; inputs = []; output = 0; kind = Pass None }) refl

delay-alone : (c : Circuit) (bound : ℕ → ℕ) → IsPotential c bound → (e : ℕ) → e < length (machine_of c).outputs → longest_delay (element_at c e).kind ≤ bound (output_of (machine_of c) e)
delay-alone c bound p e l = subst (λ n. longest_delay (element_at c e).kind ≤ bound n) (sym (output-is c e l)) (p.alone (Element e) (element_at c e).output (known-element c e l) refl)

circuit-meets : (c : Circuit) → IsClosed c → (bound : ℕ → ℕ) → IsPotential c bound → (last : ℕ) → MeetsDeadlines (machine_of c) (λ e. longest_delay (element_at c e).kind) (λ n. last + bound n)
circuit-meets c closed bound p last = record {
  steady = steady c;
  one_driver = one_driver c closed;
  placed = λ now e values stamps from to s. placed-soon (element_at c e).kind now values stamps from to s;
  alone = λ e l. (let a = delay-alone c bound p e l in omega arith);
  through = λ e net l read.
      (let through : bound net + longest_delay (element_at c e).kind ≤ bound (element_at c e).output =
      p.behind (Element e) net (element_at c e).output (known-element c e l) refl (subst (λ nets. Contains nets net) (inputs-are c e) read) in
      let same : bound (output_of (machine_of c) e) ≡ bound (element_at c e).output = ap bound (output-is c e l) in
      omega arith);
  noticed = λ now before older.
      numbers-each (IsNoticed (machine_of c) (λ n. last + bound n) before now) (is_named c.checks (violations (adjusted_checks c) (now ∷ before ∷ older))) 0 (length c.nets) (λ net e. noticed-net c closed bound p last now before older net e);
  unnoticed = λ now. ap (λ found. notifiers_of c.checks (length c.nets) found) (first-none [] (adjusted_checks c) now) ∙ (lawful c).unnamed;
}

-- what the stimulus sets is set by the last set's time
sets-soon : (steps : List Step) (t : ℕ) → (sets_at steps t ≡ []) ⊎ (t ≤ last_set steps)
sets-soon [] t = inl refl
sets-soon (s ∷ ss) t = at (s.time == t) refl s.sets (sets-soon ss t)
  where
    at : (b : Bool) → (s.time == t) ≡ b → (sets : List (ℕ × Value)) → (sets_at ss t ≡ []) ⊎ (t ≤ last_set ss) → ((if b then sets else sets_at ss t) ≡ []) ⊎ (t ≤ max (time_of_sets s.time sets) (last_set ss))
    at true e [] rest = inl refl
    at true e (x ∷ xs) rest = inr (let q : s.time ≡ t = grind (arith, nat_tests, e) in omega arith)
    at false e sets (inl none) = inl none
    at false e sets (inr l) = inr (omega arith)

soon-moved : (c : Circuit) (bound : ℕ → ℕ) → IsPotential c bound → (last t : ℕ) → t ≤ last → (cs : List (ℕ × Value)) → AreMoved (machine_of c) (λ e. longest_delay (element_at c e).kind) (λ n. last + bound n) t cs
soon-moved c bound p last t l [] = tt
soon-moved c bound p last t l (x ∷ xs) = (
  record {
    soon = omega arith;
    again = λ e m is. (let a = delay-alone c bound p e m in let same : bound (output_of (machine_of c) e) ≡ bound x.0 = ap bound is in omega arith);
  },
  soon-moved c bound p last t l xs,
)

sets-moved : (c : Circuit) (bound : ℕ → ℕ) → IsPotential c bound → (steps : List Step) (t : ℕ) → AreMoved (machine_of c) (λ e. longest_delay (element_at c e).kind) (λ n. last_set steps + bound n) t (sets_at steps t)
sets-moved c bound p steps t = elim (sets-soon steps t) [
  | inl none ↦ subst (λ cs. AreMoved (machine_of c) (λ e. longest_delay (element_at c e).kind) (λ n. last_set steps + bound n) t cs) (sym none) tt
  | inr l ↦ soon-moved c bound p (last_set steps) t l (sets_at steps t)
]

-- before time 0 nothing is pending, and no net changed
none-pending : {A : Type 0} (xs : List A) (e : ℕ) → list_at (map (λ x. []) xs) e ≡ []
none-pending [] e = refl
none-pending (x ∷ xs) zero = refl
none-pending (x ∷ xs) (suc e) = none-pending xs e

no-stamp : {A : Type 0} (xs : List A) (net : ℕ) → slice_index_or {A = Option Stamp} (map (λ x. None) xs) net None ≡ None
no-stamp [] net = refl
no-stamp (x ∷ xs) zero = refl
no-stamp (x ∷ xs) (suc net) = no-stamp xs net

first-on_time : (c : Circuit) → IsClosed c → (until : ℕ → ℕ) → IsOnTime (machine_of c) until 0 (first_state c)
first-on_time c closed until = record {
  list_of_each = length-map c.elements (λ e. []) ∙ sym (length-outputs c);
  state_of_each = length-map c.elements _ ∙ sym (length-map c.elements (λ e. []));
  within = subst (λ n. All (λ k. k < n) (machine_of c).outputs) (sym (length-map c.nets _)) (outputs_within c closed);
  pending = λ e l. subst (NoneAfter (until (output_of (machine_of c) e))) (sym (none-pending c.elements e)) tt;
  stamped = λ net. subst (IsStamped 0) (sym (no-stamp c.nets net)) tt;
}

-- so each run keeps to the bounds
pub circuit-stays : (c : Circuit) → IsClosed c → (bounds : List ℕ) → AreBounds c bounds → StayAfter c bounds
circuit-stays c closed bounds are stimulus rounds net =
    let bound : ℕ → ℕ = λ n. slice_index_or bounds n 0 in
    let p : IsPotential c bound = bounds-rise c closed bounds are in
    run-stays (machine_of c) (λ e. longest_delay (element_at c e).kind) (λ n. last_set stimulus.steps + bound n) (circuit-meets c closed bound p (last_set stimulus.steps)) (sets_at stimulus.steps) (sets-moved c bound p stimulus.steps)
    rounds stimulus.end (first_state c) (first-on_time c closed (λ n. last_set stimulus.steps + bound n)) net
