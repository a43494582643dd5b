-- What a timing check without fault has: the events, the limits and the threshold that its kind asks for.
use Rattle.std.specs.Prelude.{◌≡◌, ◌↔◌, ℕ, zero, suc, ℤ, pos, negsuc, ◌-ℤ◌, ◌+◌, ◌*◌, ◌<◌, ◌≤◌, ◌^◌, unsigned_abs, List, [], ◌++◌, Bool, true, false, Option, Some, None, IsSome, flat_map, is_none, map, nat_le, refl}
use Rattle.std.specs.Prelude.{if◌then◌else◌}
use Rattle.std.specs.List.{AllByRecursion}
use Rattle.std.specs.Option.{option_map}
use Rattle.std.proofs.Common.{sym, ap, arith, subst}
use Rattle.std.proofs.Math.IntN.{+ℤ_idl}
use Rattle.std.proofs.lemmas.Nat.{mul-le}
use Rattle.std.proofs.lemmas.Bool.{leb-false}
use Rattle.sg_circuit.specs.Closed.{HasDatum, HasEdge, HasLimits, TakesLates}
use Rattle.sg_circuit.specs.Signals.{takes_lates}
use Rattle.sg_circuit.specs.declared.checks.CheckKind.{CheckKind}
use Rattle.sg_delay.specs.declared.corners.Corner.{Corner}
use Rattle.vl_tree.specs.declared.check_names.OneLimitCheck.TheVariants as one
use Rattle.vl_tree.specs.declared.check_names.TwoLimitCheck.TheVariants as two
use Rattle.vl_tree.specs.Tree.{Limit, EdgeWord, Event, Check, one_limit_check, two_limit_check, width_check, period_check, Module}
use Rattle.elab_model.specs.declared.kinds.ElabKind.TheVariants.{BadTerminal, BadDelay}
use Rattle.elab_model.specs.Lates.{signal_count}
use Rattle.elab_model.specs.Names.{Variable, variables}
use Rattle.elab_model.specs.TerminalFaults.{delay_limit}
use Rattle.specify_model.specs.Blocks.{parameters, specify_items}
use Rattle.specify_model.specs.CheckFaults.{edge_faults, event_faults, some_event_faults, limit_parts, weight_of, heavy_faults, limit_faults, threshold_faults, notifier_faults}
use Rattle.specify_model.specs.CheckFaults.{check_faults as own_faults, timing_check_faults}
use Rattle.specify_model.specs.Checks.{ModuleCheck, check_copies, check_texts, data_of, event_of, kind_of, corner_limit, limit_ticks, limits_in, module_check, notifier_of, reference_of, size_ticks, threshold_of}
use Rattle.specify_model.specs.Checks.{threshold_ticks}
use Rattle.specify_model.specs.Faults.{amount_place, unknown_faults}
use Rattle.specify_model.specs.Outputs.{measure}
use Rattle.specify_model.specs.Paths.{edge_of}
use Rattle.specify_model.specs.Values.{Measure, Values, value_of}
use Rattle.circuit_model.specs.CheckUses.{two_limits}
use Rattle.elab_laws.proofs.Lists.{all-map, all-weaker}
use Rattle.elab_laws.proofs.NoFaults.{back, flat-empty, front}
use Rattle.elab_laws.proofs.ElementWidths.{no-fault}

-- a limit that weighs so much is light enough, and so is short
abbrev pub IsLight : (weight : ℕ) → ℤ → Type 0
IsLight weight l = unsigned_abs l * weight < 2 ^ 60

abbrev pub IsShort : ℤ → Type 0
IsShort l = unsigned_abs l < 2 ^ 60

pub light-short : (signals : ℕ) (kind : CheckKind) (l : ℤ) → IsLight (weight_of signals kind) l → IsShort l
light-short signals kind l h =
    let positive : 1 ≤ weight_of signals kind = by (takes_lates kind) in
    let le : unsigned_abs l * 1 ≤ unsigned_abs l * weight_of signals kind = mul-le (unsigned_abs l) 1 (unsigned_abs l) (weight_of signals kind) (omega arith) positive in
    let one : unsigned_abs l * 1 ≡ unsigned_abs l = omega arith in
    omega (arith, h, le, one)
  where
    by : (b : Bool) → 1 ≤ (if b then signals + 1 else 1)
    by true = omega arith
    by false = omega arith

-- of a module in which so many bits have delayed copies
pub record IsSoundCheck (signals : ℕ) (c : ModuleCheck) : Type 0 where
  pub datum : IsSome c.datum ↔ HasDatum c.kind
  pub edge : HasEdge c.kind c.refer.edge
  pub limits : AllByRecursion (IsLight (weight_of signals c.kind)) c.limits
  pub second : HasLimits c.kind (two_limits c.limits)
  pub threshold : c.threshold < 2 ^ 60
  pub copies : IsSome c.copies ↔ TakesLates c.kind

has-datum : {A : Type 0} (f : Event → A) (c : Check) → IsSome (option_map f (data_of c)) ↔ HasDatum (kind_of c)
has-datum f (one_limit_check p one.Setup r d l n) = (λ s. tt, λ u. refl)
has-datum f (one_limit_check p one.Hold r d l n) = (λ s. tt, λ u. refl)
has-datum f (one_limit_check p one.Recovery r d l n) = (λ s. tt, λ u. refl)
has-datum f (one_limit_check p one.Removal r d l n) = (λ s. tt, λ u. refl)
has-datum f (one_limit_check p one.Skew r d l n) = (λ s. tt, λ u. refl)
has-datum f (two_limit_check p two.SetupHold r d l m n x y) = (λ s. tt, λ u. refl)
has-datum f (two_limit_check p two.RecRem r d l m n x y) = (λ s. tt, λ u. refl)
has-datum f (width_check p r l t n) = (λ s. cc, λ u. absurd u)
has-datum f (period_check p r l n) = (λ s. cc, λ u. absurd u)

has-limits : (f : Limit → ℤ) (c : Check) → HasLimits (kind_of c) (two_limits (map f (limits_in c)))
has-limits f (one_limit_check p one.Setup r d l n) = refl
has-limits f (one_limit_check p one.Hold r d l n) = refl
has-limits f (one_limit_check p one.Recovery r d l n) = refl
has-limits f (one_limit_check p one.Removal r d l n) = refl
has-limits f (one_limit_check p one.Skew r d l n) = refl
has-limits f (two_limit_check p two.SetupHold r d l m n x y) = tt
has-limits f (two_limit_check p two.RecRem r d l m n x y) = tt
has-limits f (width_check p r l t n) = refl
has-limits f (period_check p r l n) = refl

some-edge : (o : Option EdgeWord) → is_none o ≡ false → IsSome (option_map edge_of o)
some-edge None e = cc
some-edge (Some w) e = refl

has-edge : (c : Check) → edge_faults c ≡ [] → HasEdge (kind_of c) (option_map edge_of (reference_of c).edge)
has-edge (one_limit_check p one.Setup r d l n) h = tt
has-edge (one_limit_check p one.Hold r d l n) h = tt
has-edge (one_limit_check p one.Recovery r d l n) h = tt
has-edge (one_limit_check p one.Removal r d l n) h = tt
has-edge (one_limit_check p one.Skew r d l n) h = tt
has-edge (two_limit_check p two.SetupHold r d l m n x y) h = tt
has-edge (two_limit_check p two.RecRem r d l m n x y) h = tt
has-edge (width_check p r l t n) h = some-edge r.edge (no-fault (is_none r.edge) BadTerminal r.place h)
has-edge (period_check p r l n) h = some-edge r.edge (no-fault (is_none r.edge) BadTerminal r.place h)

has-copies : (vs : List Variable) (c : Check) → IsSome (check_copies vs c) ↔ TakesLates (kind_of c)
has-copies vs (one_limit_check p one.Setup r d l n) = (λ s. cc, λ u. cc)
has-copies vs (one_limit_check p one.Hold r d l n) = (λ s. cc, λ u. cc)
has-copies vs (one_limit_check p one.Recovery r d l n) = (λ s. cc, λ u. cc)
has-copies vs (one_limit_check p one.Removal r d l n) = (λ s. cc, λ u. cc)
has-copies vs (one_limit_check p one.Skew r d l n) = (λ s. cc, λ u. cc)
has-copies vs (two_limit_check p two.SetupHold r d l m n x y) = (λ s. refl, λ u. refl)
has-copies vs (two_limit_check p two.RecRem r d l m n x y) = (λ s. refl, λ u. refl)
has-copies vs (width_check p r l t n) = (λ s. cc, λ u. cc)
has-copies vs (period_check p r l n) = (λ s. cc, λ u. cc)

-- the size of a limit is that of its amount
signed-size : (negative : Bool) (n : ℕ) → unsigned_abs (if negative then (pos 0 -ℤ pos n) else pos n) ≡ n
signed-size false n = refl
signed-size true zero = refl
signed-size true (suc n) = ap unsigned_abs (+ℤ_idl (negsuc n))

part-light : (weight : ℕ) (by : Measure) (values : Values) (l : Limit) → limit_faults weight by values l ≡ [] → size_ticks by values (corner_limit by.corner l) * weight < 2 ^ 60
part-light weight by values l h =
    let a = corner_limit by.corner l in
    let heavy : heavy_faults weight by values a ≡ [] = back (flat_map (λ a. unknown_faults values a.amount) (limit_parts l)) (heavy_faults weight by values a) h in
    leb-false delay_limit (size_ticks by values a * weight) (no-fault (nat_le delay_limit (size_ticks by values a * weight)) BadDelay (amount_place a.amount) heavy)

limit-light : (weight : ℕ) (by : Measure) (values : Values) (l : Limit) → limit_faults weight by values l ≡ [] → IsLight weight (limit_ticks by values l)
limit-light weight by values l h =
    let a = corner_limit by.corner l in
    subst (λ n. n * weight < 2 ^ 60) (sym (signed-size a.negative (size_ticks by values a))) (part-light weight by values l h)

threshold-short : (by : Measure) (values : Values) (o : Option Limit) → threshold_faults by values o ≡ [] → threshold_ticks by values o < 2 ^ 60
threshold-short by values None h = omega arith
threshold-short by values (Some l) h =
    let n = size_ticks by values (corner_limit by.corner l) in
    let one : n * 1 ≡ n = omega arith in
    subst (λ k. k < 2 ^ 60) one (part-light 1 by values l h)

-- each part of a check's faults is empty
pub record AreNone (signals : ℕ) (by : Measure) (vs : List Variable) (values : Values) (c : Check) : Type 0 where
  pub edge : edge_faults c ≡ []
  pub refer : event_faults vs (reference_of c) ≡ []
  pub datum : some_event_faults vs (data_of c) ≡ []
  pub limits : flat_map (limit_faults (weight_of signals (kind_of c)) by values) (limits_in c) ≡ []
  pub threshold : threshold_faults by values (threshold_of c) ≡ []
  pub notifier : notifier_faults vs (notifier_of c) ≡ []

pub are-none : (signals : ℕ) (by : Measure) (vs : List Variable) (values : Values) (c : Check) → own_faults signals by vs values c ≡ [] → AreNone signals by vs values c
are-none signals by vs values c h =
    let refers = event_faults vs (reference_of c) in
    let datums = some_event_faults vs (data_of c) in
    let limits = flat_map (limit_faults (weight_of signals (kind_of c)) by values) (limits_in c) in
    let thresholds = threshold_faults by values (threshold_of c) in
    let notifiers = notifier_faults vs (notifier_of c) in
    let one = back (edge_faults c) (refers ++ (datums ++ (limits ++ (thresholds ++ notifiers)))) h in
    let two = back refers (datums ++ (limits ++ (thresholds ++ notifiers))) one in
    let three = back datums (limits ++ (thresholds ++ notifiers)) two in
    let four = back limits (thresholds ++ notifiers) three in
    record {
      edge = front (edge_faults c) (refers ++ (datums ++ (limits ++ (thresholds ++ notifiers)))) h;
      refer = front refers (datums ++ (limits ++ (thresholds ++ notifiers))) one;
      datum = front datums (limits ++ (thresholds ++ notifiers)) two;
      limits = front limits (thresholds ++ notifiers) three;
      threshold = front thresholds notifiers four;
      notifier = back thresholds notifiers four;
    }

pub check-sound : (signals : ℕ) (by : Measure) (vs : List Variable) (values : Values) (c : Check) → AreNone signals by vs values c → IsSoundCheck signals (module_check by vs values c)
check-sound signals by vs values c h =
    let weight = weight_of signals (kind_of c) in
    record {
      datum = has-datum (event_of vs) c;
      edge = has-edge c h.edge;
      limits = all-map (IsLight weight) (limit_ticks by values) (limits_in c)
          (all-weaker (λ l. limit_faults weight by values l ≡ []) (λ l. IsLight weight (limit_ticks by values l)) (limits_in c) (λ l e. limit-light weight by values l e)
          (flat-empty (limit_faults weight by values) (limits_in c) h.limits));
      second = has-limits (limit_ticks by values) c;
      threshold = threshold-short by values (threshold_of c) h.threshold;
      copies = has-copies vs c;
    }

-- all of a module
pub checks-none : (corner : Corner) (tick : ℤ) (m : Module) → timing_check_faults corner tick m ≡ []
    → AllByRecursion (AreNone (signal_count m) (measure corner tick m) (variables m) (value_of (parameters (specify_items m)))) (check_texts (specify_items m))
checks-none corner tick m h =
    let by = measure corner tick m in
    let vs = variables m in
    let values = value_of (parameters (specify_items m)) in
    let texts = check_texts (specify_items m) in
    let n = signal_count m in
    all-weaker (λ c. own_faults n by vs values c ≡ []) (AreNone n by vs values) texts (are-none n by vs values) (flat-empty (own_faults n by vs values) texts h)
