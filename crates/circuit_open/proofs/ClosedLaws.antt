-- A closed circuit stays one where an element's kind, a check's limit or the limits that are taken as 0 are changed.
use Rattle.std.specs.Prelude.{◌≡◌, ◌≢◌, ◌⊎◌, ℕ, zero, suc, ℤ, pos, ◌+◌, ◌*◌, ◌<◌, ◌≤◌, ◌^◌, true, All, List, [], ◌∷◌, Option, Some, None, IfSome, IsSome, length, map, slice_index_or, slice_set, unsigned_abs, refl}
use Rattle.std.proofs.Common.{sym, ◌∙◌, ap, arith, subst, inl, inr}
use Rattle.std.proofs.lemmas.Bool.{cases_eq}
use Rattle.std.proofs.lemmas.List.Elements.{All-set, All-weaker}
use Rattle.sg_circuit.specs.declared.nets.Driver.{Driver}
use Rattle.sg_circuit.specs.declared.nets.Driver.TheVariants as driver
use Rattle.sg_circuit.specs.declared.checks.Check.{Check}
use Rattle.sg_circuit.specs.declared.checks.CheckKind.{CheckKind}
use Rattle.sg_circuit.specs.declared.checks.CheckKind.TheVariants as kinds
use Rattle.sg_circuit.specs.declared.checks.CheckTiming.{CheckTiming}
use Rattle.sg_circuit.specs.declared.checks.Zero.{Zero}
use Rattle.sg_circuit.specs.Timings.{Timing}
use Rattle.sg_circuit.specs.Paths as specify
use Rattle.sg_circuit.specs.Circuit.{Circuit, Element, Kind, Gate, Udp, Pass, Leg, Path, Late, net_at, element_at}
use Rattle.sg_circuit.specs.Closed.{limit_count, AreTimings, AreLatesOf, HasDelays, HasFewPaths, HasLates, HasLimits, IfElement, IsCheckTiming, IsClosed, IsLate, IsLateOf, IsNotifier, IsPathOf, IsZeroOf, NamesNets, TakesInputs}
use Rattle.sg_circuit.specs.Signals.{signals, takes_lates, windows, AreShort, IsShort}
use Rattle.late_limits.proofs.AlikeLaws.{signals-alike, windows-all, windows-at, without_limits}
use Rattle.late_limits.specs.Adjusted.{late_kind}
use Rattle.circuit_open.specs.Open.{changed_at, with_kind, with_leg, with_path, with_limit, with_check_limit, with_zeroed, IsLight}
use Rattle.circuit_open.proofs.ChangeLaws.{length-changed, All-changed, All-changed-there, here-at, kept-at, other-at, stays-at}

if_some : {A : Type 0} (o : Option A) (P Q : A → Type 0) → ((a : A) → P a → Q a) → IfSome o P → IfSome o Q
if_some None P Q f h = tt
if_some (Some a) P Q f h = f a h

if_element : (d : Driver) (P Q : ℕ → Type 0) → ((e : ℕ) → P e → Q e) → IfElement d P → IfElement d Q
if_element driver.Nobody P Q f h = tt
if_element driver.Stimulus P Q f h = tt
if_element (driver.Element e) P Q f h = f e h
if_element driver.Notifier P Q f h = tt

-- what a change of a kind has to keep
pub record KeepsKind (nets : ℕ) (g : Kind → Kind) : Type 0 where
  pub takes : (k : Kind) (n : ℕ) → TakesInputs k n → TakesInputs (g k) n
  pub delays : (k : Kind) → HasDelays k → HasDelays (g k)
  pub few : (k : Kind) → HasFewPaths k → HasFewPaths (g k)
  pub names : (k : Kind) → NamesNets nets k → NamesNets nets (g k)
  pub lates : (k : Kind) → IsLate k → IsLate (g k)

leg-cases : (P : Kind → Type 0) (timings : List Timing) → ((before : List Timing) → P (Leg before) → P (Leg timings)) → (k : Kind) → P k → P (with_leg timings k)
leg-cases P timings f (Gate kind delays) h = h
leg-cases P timings f (Udp primitive first delays) h = h
leg-cases P timings f (Pass constant) h = h
leg-cases P timings f (Leg before) h = f before h
leg-cases P timings f (Path paths style) h = h
leg-cases P timings f (Late delay) h = h

pub keeps-leg : (nets : ℕ) (timings : List Timing) → AreTimings timings → KeepsKind nets (with_leg timings)
keeps-leg nets timings t = record {
  takes = λ k n. leg-cases (λ q. TakesInputs q n) timings (λ before h. h) k;
  delays = leg-cases HasDelays timings (λ before h. t);
  few = leg-cases HasFewPaths timings (λ before h. h);
  names = leg-cases (NamesNets nets) timings (λ before h. h);
  lates = leg-cases IsLate timings (λ before h. h);
}

late-cases : (P : Kind → Type 0) (delay : ℕ) → ((before : ℕ) → P (Late before) → P (Late delay)) → (k : Kind) → P k → P (late_kind delay k)
late-cases P delay f (Gate kind delays) h = h
late-cases P delay f (Udp primitive first delays) h = h
late-cases P delay f (Pass constant) h = h
late-cases P delay f (Leg timings) h = h
late-cases P delay f (Path paths style) h = h
late-cases P delay f (Late before) h = f before h

pub keeps-delay : (nets delay : ℕ) → delay < 2 ^ 60 → KeepsKind nets (late_kind delay)
keeps-delay nets delay l = record {
  takes = λ k n. late-cases (λ q. TakesInputs q n) delay (λ before h. h) k;
  delays = late-cases HasDelays delay (λ before h. l);
  few = late-cases HasFewPaths delay (λ before h. h);
  names = late-cases (NamesNets nets) delay (λ before h. h);
  lates = late-cases IsLate delay (λ before h. h);
}

path-cases : (P : Kind → Type 0) (place : ℕ) (timings : List Timing) → ((paths : List specify.Path) (style : _) → P (Path paths style) → P (with_path place timings (Path paths style))) → (k : Kind) → P k → P (with_path place timings k)
path-cases P place timings f (Gate kind delays) h = h
path-cases P place timings f (Udp primitive first delays) h = h
path-cases P place timings f (Pass constant) h = h
path-cases P place timings f (Leg before) h = h
path-cases P place timings f (Path paths style) h = f paths style h
path-cases P place timings f (Late delay) h = h

pub keeps-path : (nets place : ℕ) (timings : List Timing) → AreTimings timings → KeepsKind nets (with_path place timings)
keeps-path nets place timings t = record {
  takes = λ k n. path-cases (λ q. TakesInputs q n) place timings (λ paths style h. h) k;
  delays = path-cases HasDelays place timings (λ paths style. All-changed (λ (p : specify.Path). AreTimings p.timings) (λ p. record p { timings = timings }) (λ p h. t) place paths);
  few = path-cases HasFewPaths place timings (λ paths style. subst (λ n. n < 2 ^ 31) (sym (length-changed (λ (p : specify.Path). record p { timings = timings }) place paths)));
  names = path-cases (NamesNets nets) place timings (λ paths style. All-changed (IsPathOf nets) (λ p. record p { timings = timings }) (λ p h. record { input = h.input; condition = h.condition }) place paths);
  lates = path-cases IsLate place timings (λ paths style h. h);
}

-- delayed signals of a circuit in which an element's kind is changed
late_of : (c : Circuit) (g : Kind → Kind) (e : ℕ) → KeepsKind (length c.nets) g → (net l : ℕ) → IsLateOf c net l → IsLateOf (with_kind g e c) net l
late_of c g e keeps net l h =
    let change = λ (x : Element). record x { kind = g x.kind } in
    let blank : Element = record { scope = 0; inputs = []; output = 0; kind = Pass None } in
    record {
      within = subst (λ n. l < n) (sym (length-changed change e c.elements)) h.within;
      kind = stays-at (λ (x : Element). IsLate x.kind) change (λ x. keeps.lates x.kind) e c.elements l blank h.kind;
      input = kept-at (λ (x : Element). x.inputs) change e c.elements (λ d m. refl) l blank ∙ h.input;
    }

lates_of : (c : Circuit) (g : Kind → Kind) (e : ℕ) → KeepsKind (length c.nets) g → (t : CheckTiming) (lates : List ℕ) → AreLatesOf c t lates → AreLatesOf (with_kind g e c) t lates
lates_of c g e keeps t lates h = record {
  refer = late_of c g e keeps t.refer.net (slice_index_or lates 0 0) h.refer;
  datum = if_some t.datum (λ d. IsLateOf c d.net (slice_index_or lates 1 0)) (λ d. IsLateOf (with_kind g e c) d.net (slice_index_or lates 1 0)) (λ d. late_of c g e keeps d.net (slice_index_or lates 1 0)) h.datum;
}

pub closed-kind : (c : Circuit) (g : Kind → Kind) (e : ℕ) → KeepsKind (length c.nets) g → IsClosed c → IsClosed (with_kind g e c)
closed-kind c g e keeps h =
    let change = λ (x : Element). record x { kind = g x.kind } in
    let blank : Element = record { scope = 0; inputs = []; output = 0; kind = Pass None } in
    let many : length (changed_at change e c.elements) ≡ length c.elements = length-changed change e c.elements in
    let outputs = λ (i : ℕ). kept-at (λ (x : Element). x.output) change e c.elements (λ d m. refl) i blank in
    record {
      few_nets = h.few_nets;
      few_elements = subst (λ n. n < 2 ^ 31) (sym many) h.few_elements;
      few_checks = h.few_checks;
      few_scopes = h.few_scopes;
      parents = h.parents;
      net_scopes = h.net_scopes;
      element_scopes = All-changed (λ (x : Element). x.scope < length c.scopes) change (λ x s. s) e c.elements h.element_scopes;
      check_scopes = h.check_scopes;
      bits = h.bits;
      inputs = All-changed (λ (x : Element). All (λ n. n < length c.nets) x.inputs) change (λ x s. s) e c.elements h.inputs;
      outputs = All-changed (λ (x : Element). x.output < length c.nets) change (λ x s. s) e c.elements h.outputs;
      paths = All-changed (λ (x : Element). NamesNets (length c.nets) x.kind) change (λ x. keeps.names x.kind) e c.elements h.paths;
      named = λ i l. ap (λ n. (net_at c n).driver) (outputs i) ∙ h.named i (subst (λ n. i < n) many l);
      drivers = λ n l. if_element (net_at c n).driver (λ i. (i < length c.elements) × ((element_at c i).output ≡ n)) (λ i. (i < length (changed_at change e c.elements)) × ((element_at (with_kind g e c) i).output ≡ n))
          (λ i d. (subst (λ k. i < k) (sym many) d.0, outputs i ∙ d.1)) (h.drivers n l);
      takes_inputs = All-changed (λ (x : Element). TakesInputs x.kind (length x.inputs)) change (λ x. keeps.takes x.kind (length x.inputs)) e c.elements h.takes_inputs;
      has_delays = All-changed (λ (x : Element). HasDelays x.kind) change (λ x. keeps.delays x.kind) e c.elements h.has_delays;
      few_paths = All-changed (λ (x : Element). HasFewPaths x.kind) change (λ x. keeps.few x.kind) e c.elements h.few_paths;
      widths = h.widths;
      datums = h.datums;
      timing_of_each = h.timing_of_each;
      conditions_of_each = h.conditions_of_each;
      check_kinds = h.check_kinds;
      check_timings = h.check_timings;
      notifiers = All-weaker (λ (k : Check). IfSome k.notifier (λ n. IsNotifier c n)) (λ (k : Check). IfSome k.notifier (λ n. IsNotifier (with_kind g e c) n))
          (λ k. if_some k.notifier (λ n. IsNotifier c n) (λ n. IsNotifier (with_kind g e c) n) (λ n d. record { within = d.within; driven = d.driven })) c.checks h.notifiers;
      scales = h.scales;
      lates = All-weaker (HasLates c) (HasLates (with_kind g e c))
          (λ t l. record { exact = l.exact; lates = if_some t.late (λ lates. AreLatesOf c t lates) (λ lates. AreLatesOf (with_kind g e c) t lates) (lates_of c g e keeps t) l.lates }) c.check_timings h.lates;
      short = h.short;
      zeroed = All-weaker (IsZeroOf c) (IsZeroOf (with_kind g e c)) (λ z d. record { check = d.check; late = d.late; part = d.part }) c.zeroed h.zeroed;
    }

-- a check's limit
late-limit : (c : Circuit) (check part : ℕ) (value : ℤ) (net l : ℕ) → IsLateOf c net l → IsLateOf (with_check_limit check part value c) net l
late-limit c check part value net l h = record { within = h.within; kind = h.kind; input = h.input }

lates-limit : (c : Circuit) (check part : ℕ) (value : ℤ) (t : CheckTiming) (lates : List ℕ) → AreLatesOf c t lates → AreLatesOf (with_check_limit check part value c) t lates
lates-limit c check part value t lates h = record {
  refer = late-limit c check part value t.refer.net (slice_index_or lates 0 0) h.refer;
  datum = if_some t.datum (λ d. IsLateOf c d.net (slice_index_or lates 1 0)) (λ d. IsLateOf (with_check_limit check part value c) d.net (slice_index_or lates 1 0)) (λ d. late-limit c check part value d.net (slice_index_or lates 1 0)) h.datum;
}

has-lates-limit : (c : Circuit) (check part : ℕ) (value : ℤ) (t : CheckTiming) → HasLates c t → HasLates (with_check_limit check part value c) t
has-lates-limit c check part value t h =
    record { exact = h.exact; lates = if_some t.late (λ lates. AreLatesOf c t lates) (λ lates. AreLatesOf (with_check_limit check part value c) t lates) (lates-limit c check part value t) h.lates }

limit-lates : (c : Circuit) (part : ℕ) (value : ℤ) (t : CheckTiming) → HasLates c t → HasLates c (with_limit part value t)
limit-lates c part value t h =
    record { exact = h.exact; lates = if_some t.late (λ lates. AreLatesOf c t lates) (λ lates. AreLatesOf c (with_limit part value t) lates) (λ lates l. record { refer = l.refer; datum = l.datum }) h.lates }

first_set : (limits : List ℤ) (part : ℕ) (value : ℤ) → part < 1 → slice_index_or limits 1 (pos 0) ≡ pos 0 → slice_index_or (slice_set limits part value) 1 (pos 0) ≡ pos 0
first_set [] part value l h = h
first_set (x ∷ xs) zero value l h = h
first_set (x ∷ xs) (suc part) value l h = absurd (omega arith)

-- a limit that the kind has is set: the second is 0 still where it has one
limits-set : (k : CheckKind) (limits : List ℤ) (part : ℕ) (value : ℤ) → part < limit_count k → HasLimits k limits → HasLimits k (slice_set limits part value)
limits-set kinds.Setup limits part value l h = first_set limits part value l h
limits-set kinds.Hold limits part value l h = first_set limits part value l h
limits-set kinds.Recovery limits part value l h = first_set limits part value l h
limits-set kinds.Removal limits part value l h = first_set limits part value l h
limits-set kinds.Skew limits part value l h = first_set limits part value l h
limits-set kinds.Setuphold limits part value l h = tt
limits-set kinds.Recrem limits part value l h = tt
limits-set kinds.Width limits part value l h = first_set limits part value l h
limits-set kinds.Period limits part value l h = first_set limits part value l h

limit-timing : (nets part : ℕ) (value : ℤ) → unsigned_abs value < 2 ^ 60 → (t : CheckTiming) → part < limit_count t.kind → IsCheckTiming nets t → IsCheckTiming nets (with_limit part value t)
limit-timing nets part value short t own h = record {
  refer = h.refer;
  datum = h.datum;
  has_datum = h.has_datum;
  has_edge = h.has_edge;
  limits = All-set (λ l. unsigned_abs l < 2 ^ 60) t.limits part value short h.limits;
  second = limits-set t.kind t.limits part value own h.second;
  threshold = h.threshold;
}

-- a limit of a check's kind is one of two
two-limits : (k : CheckKind) → limit_count k ≤ 2
two-limits kinds.Setup = omega arith
two-limits kinds.Hold = omega arith
two-limits kinds.Recovery = omega arith
two-limits kinds.Removal = omega arith
two-limits kinds.Skew = omega arith
two-limits kinds.Setuphold = omega arith
two-limits kinds.Recrem = omega arith
two-limits kinds.Width = omega arith
two-limits kinds.Period = omega arith

pub part-of_two : (ts : List CheckTiming) (check part : ℕ) → check < length ts → ((t : CheckTiming) → part < limit_count (slice_index_or ts check t).kind) → part < 2
part-of_two [] check part l own = absurd (omega arith)
part-of_two (t ∷ ts) check part l own = let most = two-limits (slice_index_or (t ∷ ts) check t).kind in let few = own t in omega arith

zero-limit : (c : Circuit) (check part : ℕ) (value : ℤ) (z : Zero) → IsZeroOf c z → IsZeroOf (with_check_limit check part value c) z
zero-limit c check part value z h = record {
  check = subst (λ n. z.check < n) (sym (length-changed (with_limit part value) check c.check_timings)) h.check;
  late = λ d. stays-at (λ (t : CheckTiming). IsSome t.late) (with_limit part value) (λ t s. s) check c.check_timings z.check d (h.late d);
  part = h.part;
}

-- a limit of one check is set: those of its scope are short still
same-but-limit : (part check : ℕ) (value : ℤ) (ts : List CheckTiming) → map without_limits (changed_at (with_limit part value) check ts) ≡ map without_limits ts
same-but-limit part check value [] = refl
same-but-limit part zero value (t ∷ ts) = refl
same-but-limit part (suc check) value (t ∷ ts) = ap (λ us. without_limits t ∷ us) (same-but-limit part check value ts)

short-limit : (c : Circuit) (check part : ℕ) (value : ℤ) → IsLight c check value → length c.check_timings ≡ length c.checks → ((scope : ℕ) → AreShort c.checks c.check_timings scope)
    → (scope : ℕ) → AreShort c.checks (changed_at (with_limit part value) check c.check_timings) scope
short-limit c check part value light same short scope =
    let change = with_limit part value in
    let ts : List CheckTiming = changed_at change check c.check_timings in
    let many : length ts ≡ length c.check_timings = length-changed change check c.check_timings in
    let n : ℕ = length (signals c.checks c.check_timings scope) in
    subst (λ ns. All (λ (w : ℕ × CheckTiming). IsShort (length ns) w.1) (windows c.checks ts scope)) (sym (signals-alike c.checks ts c.check_timings scope (same-but-limit part check value c.check_timings)))
    (windows-all (IsShort n) scope 0 c.checks ts
    (λ k d e l m o takes. by k d e (subst (λ b. k < b) many m) l o (ap takes_lates (sym (kept-at (λ (t : CheckTiming). t.kind) change check c.check_timings (λ x q. refl) k e)) ∙ takes) (cases_eq k check)))
  where
    by : (k : ℕ) (d : Check) (e : CheckTiming) → k < length c.check_timings → k < length c.checks → (slice_index_or c.checks k d).scope ≡ scope → takes_lates (slice_index_or c.check_timings k e).kind ≡ true → (k ≡ check) ⊎ (k ≢ check)
        → IsShort (length (signals c.checks c.check_timings scope)) (slice_index_or (changed_at (with_limit part value) check c.check_timings) k e)
    by k d e m l o takes (inl same) =
        let n : ℕ = length (signals c.checks c.check_timings scope) in
        let t : CheckTiming = slice_index_or c.check_timings k e in
        let here : slice_index_or (changed_at (with_limit part value) check c.check_timings) k e ≡ with_limit part value t =
        ap (λ i. slice_index_or (changed_at (with_limit part value) i c.check_timings) k e) (sym same) ∙ here-at (with_limit part value) k c.check_timings e m in
        let old : IsShort n t = windows-at (IsShort n) scope 0 c.checks c.check_timings (short scope) k d e l m o takes in
        let own : unsigned_abs value * (length (signals c.checks c.check_timings (slice_index_or c.checks k d).scope) + 1) < 2 ^ 60 =
        subst (λ i. (u : CheckTiming) (q : Check) → takes_lates (slice_index_or c.check_timings i u).kind ≡ true → unsigned_abs value * (length (signals c.checks c.check_timings (slice_index_or c.checks i q).scope) + 1) < 2 ^ 60) (sym same) light e d takes in
        subst (IsShort n) (sym here)
        (All-set (λ (v : ℤ). unsigned_abs v * (n + 1) < 2 ^ 60) t.limits part value (subst (λ s. unsigned_abs value * (length (signals c.checks c.check_timings s) + 1) < 2 ^ 60) o own) old)
    by k d e m l o takes (inr other) =
        let n : ℕ = length (signals c.checks c.check_timings scope) in
        subst (IsShort n) (sym (other-at (with_limit part value) check c.check_timings k e other)) (windows-at (IsShort n) scope 0 c.checks c.check_timings (short scope) k d e l m o takes)

pub closed-limit : (c : Circuit) (check part : ℕ) (value : ℤ) → ((t : CheckTiming) → part < limit_count (slice_index_or c.check_timings check t).kind) → unsigned_abs value < 2 ^ 60 → IsLight c check value → IsClosed c
    → IsClosed (with_check_limit check part value c)
closed-limit c check part value own short light h =
    let change = with_limit part value in
    let many : length (changed_at change check c.check_timings) ≡ length c.check_timings = length-changed change check c.check_timings in
    record {
      few_nets = h.few_nets;
      few_elements = h.few_elements;
      few_checks = h.few_checks;
      few_scopes = h.few_scopes;
      parents = h.parents;
      net_scopes = h.net_scopes;
      element_scopes = h.element_scopes;
      check_scopes = h.check_scopes;
      bits = h.bits;
      inputs = h.inputs;
      outputs = h.outputs;
      paths = h.paths;
      named = h.named;
      drivers = h.drivers;
      takes_inputs = h.takes_inputs;
      has_delays = h.has_delays;
      few_paths = h.few_paths;
      widths = h.widths;
      datums = h.datums;
      timing_of_each = many ∙ h.timing_of_each;
      conditions_of_each = h.conditions_of_each;
      check_kinds = λ k d e l. h.check_kinds k d e l ∙ sym (kept-at (λ (t : CheckTiming). t.kind) change check c.check_timings (λ x m. refl) k e);
      check_timings = All-changed-there (IsCheckTiming (length c.nets)) change check c.check_timings (λ d l. limit-timing (length c.nets) part value short (slice_index_or c.check_timings check d) (own d)) h.check_timings;
      notifiers = All-weaker (λ (k : Check). IfSome k.notifier (λ n. IsNotifier c n)) (λ (k : Check). IfSome k.notifier (λ n. IsNotifier (with_check_limit check part value c) n))
          (λ k. if_some k.notifier (λ n. IsNotifier c n) (λ n. IsNotifier (with_check_limit check part value c) n) (λ n d. record { within = d.within; driven = d.driven })) c.checks h.notifiers;
      scales = h.scales;
      lates = All-weaker (HasLates c) (HasLates (with_check_limit check part value c)) (has-lates-limit c check part value) (changed_at change check c.check_timings)
          (All-changed (HasLates c) change (limit-lates c part value) check c.check_timings h.lates);
      short = short-limit c check part value light h.timing_of_each h.short;
      zeroed = All-weaker (IsZeroOf c) (IsZeroOf (with_check_limit check part value c)) (zero-limit c check part value) c.zeroed h.zeroed;
    }

-- the limits that are taken as 0
late-zeroed : (c : Circuit) (zeroed : List Zero) (net l : ℕ) → IsLateOf c net l → IsLateOf (with_zeroed zeroed c) net l
late-zeroed c zeroed net l h = record { within = h.within; kind = h.kind; input = h.input }

lates-zeroed : (c : Circuit) (zeroed : List Zero) (t : CheckTiming) (lates : List ℕ) → AreLatesOf c t lates → AreLatesOf (with_zeroed zeroed c) t lates
lates-zeroed c zeroed t lates h = record {
  refer = late-zeroed c zeroed t.refer.net (slice_index_or lates 0 0) h.refer;
  datum = if_some t.datum (λ d. IsLateOf c d.net (slice_index_or lates 1 0)) (λ d. IsLateOf (with_zeroed zeroed c) d.net (slice_index_or lates 1 0)) (λ d. late-zeroed c zeroed d.net (slice_index_or lates 1 0)) h.datum;
}

pub closed-zeroed : (c : Circuit) (zeroed : List Zero) → All (IsZeroOf c) zeroed → IsClosed c → IsClosed (with_zeroed zeroed c)
closed-zeroed c zeroed zs h = record {
  few_nets = h.few_nets;
  few_elements = h.few_elements;
  few_checks = h.few_checks;
  few_scopes = h.few_scopes;
  parents = h.parents;
  net_scopes = h.net_scopes;
  element_scopes = h.element_scopes;
  check_scopes = h.check_scopes;
  bits = h.bits;
  inputs = h.inputs;
  outputs = h.outputs;
  paths = h.paths;
  named = h.named;
  drivers = h.drivers;
  takes_inputs = h.takes_inputs;
  has_delays = h.has_delays;
  few_paths = h.few_paths;
  widths = h.widths;
  datums = h.datums;
  timing_of_each = h.timing_of_each;
  conditions_of_each = h.conditions_of_each;
  check_kinds = h.check_kinds;
  check_timings = h.check_timings;
  notifiers = All-weaker (λ (k : Check). IfSome k.notifier (λ n. IsNotifier c n)) (λ (k : Check). IfSome k.notifier (λ n. IsNotifier (with_zeroed zeroed c) n))
      (λ k. if_some k.notifier (λ n. IsNotifier c n) (λ n. IsNotifier (with_zeroed zeroed c) n) (λ n d. record { within = d.within; driven = d.driven })) c.checks h.notifiers;
  scales = h.scales;
  lates = All-weaker (HasLates c) (HasLates (with_zeroed zeroed c))
      (λ t l. record { exact = l.exact; lates = if_some t.late (λ lates. AreLatesOf c t lates) (λ lates. AreLatesOf (with_zeroed zeroed c) t lates) (lates-zeroed c zeroed t) l.lates }) c.check_timings h.lates;
  short = h.short;
  zeroed = All-weaker (IsZeroOf c) (IsZeroOf (with_zeroed zeroed c)) (λ z d. record { check = d.check; late = d.late; part = d.part }) zeroed zs;
}
