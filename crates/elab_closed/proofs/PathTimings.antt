-- Paths have the delays of twelve transitions, and limits in order, where their blocks have no fault.
use Rattle.std.specs.Prelude.{◌≡◌, ℕ, ◌-◌, ◌<◌, ◌≤◌, ◌==◌, ◌^◌, ◌||◌, IfSome, List, [], ◌∷◌, ◌++◌, Bool, true, false, Option, Some, None, Ok, cond, filter, flat_map, is_err, length, map, max, min, nat_le}
use Rattle.std.specs.Prelude.{nat_lt, refl, ℤ}
use Rattle.std.specs.List.{AllByRecursion, last_or}
use Rattle.std.specs.Option.{option_map, option_or}
use Rattle.std.proofs.Common.{◌∙◌, arith}
use Rattle.std.proofs.Math.Nat.{min-le_left, max-le}
use Rattle.std.proofs.lemmas.Bool.{eqb-true, leb-false, ltb-false, or_parts}
use Rattle.std.proofs.lemmas.List.{length-map}
use Rattle.std.proofs.lemmas.List.Elements.{All-from_recursion}
use Rattle.sg_circuit.specs.Closed.{AreTimings, IsTiming}
use Rattle.sg_delay.specs.Expansion.{Six, six, delay_of, of_six, delays_of}
use Rattle.sg_delay.specs.declared.corners.Corner.{Corner}
use Rattle.sg_logic.specs.Transitions.{transitions}
use Rattle.sg_text.specs.declared.places.Place.{Place}
use Rattle.vl_tree.specs.Tree.{Amounts, SpecifyPath, Module}
use Rattle.elab_model.specs.declared.kinds.ElabKind.TheVariants.{BadDelay, UnknownName}
use Rattle.elab_model.specs.Faults.{fault_if}
use Rattle.elab_model.specs.Names.{Variable, variables}
use Rattle.elab_model.specs.TerminalFaults.{delay_limit}
use Rattle.specify_model.specs.Blocks.{Pulse, specify_items, parameters, pulses, specify_paths, style_texts}
use Rattle.specify_model.specs.Faults.{parameter_faults, has_no_ends, are_bad_limits, pulse_faults, end_faults, side_faults, condition_faults, own_condition, source_faults, amount_parts, amount_place}
use Rattle.specify_model.specs.Faults.{unknown_faults, long_faults, delay_faults, list_faults, path_faults, style_faults, specify_faults}
use Rattle.specify_model.specs.Outputs.{PathOutput, first_paths, paths_to, output_of, measure, path_outputs}
use Rattle.specify_model.specs.Paths.{PathTo, timings_with, path_between, paths_of, module_paths}
use Rattle.specify_model.specs.PulseLimits.{limit_ticks, is_for_ends, is_for_others, last_of, limits_of}
use Rattle.elab_model.specs.Terms.{NetBit, is_same_bit, path_pairs}
use Rattle.specify_model.specs.Values.{Measure, Values, value_of, corner_amount, amount_ticks, delay_ticks, all_delays, expanded, twelve_delays}
use Rattle.elab_laws.proofs.Filters.{all-filter}
use Rattle.elab_laws.proofs.Lists.{all-anyway, all-flat_in, all-map, all-weaker}
use Rattle.elab_laws.proofs.NoFaults.{front, back, flat-empty}
use Rattle.elab_laws.proofs.ElementWidths.{no-fault}

-- ---- twelve delays

-- they are twelve, and below a limit
abbrev AreTwelve : ℕ → List ℕ → Type 0
AreTwelve k ds = (length ds ≡ 12) × AllByRecursion (λ d. d < k) ds

record SixBelow (k : ℕ) (d : Six ℕ) : Type 0 where
  t01 : d.t01 < k
  t10 : d.t10 < k
  t0z : d.t0z < k
  tz1 : d.tz1 < k
  t1z : d.t1z < k
  tz0 : d.tz0 < k

min-below : (k a b : ℕ) → a < k → min a b < k
min-below k a b lt = let le : min a b ≤ a = min-le_left a b in omega arith

max-below : (k a b : ℕ) → a < k → b < k → max a b < k
max-below k a b lt gt = let le : max a b ≤ k - 1 = max-le {a = a} {b = b} {k = k - 1} (omega arith) (omega arith) in omega arith

six-below : (k : ℕ) (d : Six ℕ) → SixBelow k d → AreTwelve k (map (delay_of d) transitions)
six-below k d h = (
  refl,
  (
    h.t01,
    (
      h.t10,
      (
        h.t0z,
        (
          h.tz1,
          (
            h.t1z,
            (
              h.tz0,
              (
                min-below k d.t0z d.t01 h.t0z,
                (
                  max-below k d.tz1 d.t01 h.tz1 h.t01,
                  (
                    min-below k d.t1z d.t10 h.t1z,
                    (
                      max-below k d.tz0 d.t10 h.tz0 h.t10,
                      (
                        max-below k d.t1z d.t0z h.t1z h.t0z,
                        (min-below k d.tz1 d.tz0 h.tz1, tt),
                      ),
                    ),
                  ),
                ),
              ),
            ),
          ),
        ),
      ),
    ),
  ),
)

-- a list that isn't twelve long, by its length
pub twelve-below : (k : ℕ) (list : List ℕ) → AllByRecursion (λ d. d < k) list → is_err (delays_of list) ≡ false → AreTwelve k (all_delays (delays_of list))
twelve-below k [] h e = cc
twelve-below k (a ∷ []) h e = six-below k (record { t01 = a; t10 = a; t0z = a; tz1 = a; t1z = a; tz0 = a }) (record { t01 = h.0; t10 = h.0; t0z = h.0; tz1 = h.0; t1z = h.0; tz0 = h.0 })
twelve-below k (a ∷ b ∷ []) h e = six-below k (record { t01 = a; t10 = b; t0z = a; tz1 = a; t1z = b; tz0 = b }) (record { t01 = h.0; t10 = h.1.0; t0z = h.0; tz1 = h.0; t1z = h.1.0; tz0 = h.1.0 })
twelve-below k (a ∷ b ∷ c ∷ []) h e = six-below k (record { t01 = a; t10 = b; t0z = c; tz1 = a; t1z = c; tz0 = b }) (record { t01 = h.0; t10 = h.1.0; t0z = h.1.1.0; tz1 = h.0; t1z = h.1.1.0; tz0 = h.1.0 })
twelve-below k (a ∷ b ∷ c ∷ d ∷ []) h e = cc
twelve-below k (a ∷ b ∷ c ∷ d ∷ f ∷ []) h e = cc
twelve-below k (a ∷ b ∷ c ∷ d ∷ f ∷ g ∷ []) h e =
    six-below k (record { t01 = a; t10 = b; t0z = c; tz1 = d; t1z = f; tz0 = g }) (record { t01 = h.0; t10 = h.1.0; t0z = h.1.1.0; tz1 = h.1.1.1.0; t1z = h.1.1.1.1.0; tz0 = h.1.1.1.1.1.0 })
twelve-below k (a ∷ b ∷ c ∷ d ∷ f ∷ g ∷ i ∷ rest) h e = by (length list == 12) refl e
  where
    list : List ℕ
    list = a ∷ b ∷ c ∷ d ∷ f ∷ g ∷ i ∷ rest

    by : (t : Bool) → (length list == 12) ≡ t → is_err (cond t (Ok (record { at = list })) (of_six (six list))) ≡ false → AreTwelve k (all_delays (cond t (Ok (record { at = list })) (of_six (six list))))
    by true t e = (eqb-true (length list) 12 t, h)
    by false t e = cc

-- ---- limits

-- limits in order, and below the limit of delays
abbrev AreLimits : ℕ × ℕ → Type 0
AreLimits l = (l.0 ≤ l.1) × (l.1 < delay_limit)

limits-are : (l : ℕ × ℕ) → are_bad_limits l ≡ false → AreLimits l
limits-are l e =
    let first = or_parts (nat_le delay_limit l.0) (nat_le delay_limit l.1 || nat_lt l.1 l.0) e in
    let rest = or_parts (nat_le delay_limit l.1) (nat_lt l.1 l.0) first.1 in
    (ltb-false l.1 l.0 rest.1, leb-false delay_limit l.1 rest.0)

-- the last of what holds of each
last-holds : (P : Pulse → Type 0) (o : Option Pulse) (ps : List Pulse) → IfSome o P → AllByRecursion P ps → IfSome (last_or o ps) P
last-holds P o [] h k = h
last-holds P o (p ∷ ps) h k = last-holds P (Some p) ps k.0 k.1

found : (by : Measure) (a b : Option Pulse) → IfSome a (λ p. AreLimits (limit_ticks by p)) → IfSome b (λ p. AreLimits (limit_ticks by p)) → IfSome (option_map (limit_ticks by) (option_or a b)) AreLimits
found by None None h k = tt
found by None (Some p) h k = k
found by (Some p) b h k = h

pub given-limits : (by : Measure) (vs : List Variable) (ps : List Pulse) → flat_map (pulse_faults by vs) ps ≡ [] → (i o : List ℕ) → IfSome (limits_of by vs ps i o) AreLimits
given-limits by vs ps h i o =
    let each : AllByRecursion (λ p. AreLimits (limit_ticks by p)) ps =
    all-weaker (λ p. pulse_faults by vs p ≡ []) (λ p. AreLimits (limit_ticks by p)) ps
    (λ p e. limits-are (limit_ticks by p)
    (no-fault (are_bad_limits (limit_ticks by p)) BadDelay p.name.place (back (fault_if (has_no_ends vs p) UnknownName p.name.place) (fault_if (are_bad_limits (limit_ticks by p)) BadDelay p.name.place) e)))
    (flat-empty (pulse_faults by vs) ps h) in
    found by (last_of (is_for_ends vs i o) ps) (last_of is_for_others ps)
    (last-holds (λ p. AreLimits (limit_ticks by p)) None (filter (is_for_ends vs i o) ps) tt (all-filter (λ p. AreLimits (limit_ticks by p)) (is_for_ends vs i o) ps each))
    (last-holds (λ p. AreLimits (limit_ticks by p)) None (filter is_for_others ps) tt (all-filter (λ p. AreLimits (limit_ticks by p)) is_for_others ps each))

-- ---- timings

ordered : (o : Option (ℕ × ℕ)) → IfSome o AreLimits → IfSome o (λ l. l.0 ≤ l.1)
ordered None h = tt
ordered (Some l) h = h.0

bounded : (o : Option (ℕ × ℕ)) → IfSome o AreLimits → IfSome o (λ l. l.1 < 2 ^ 60)
bounded None h = tt
bounded (Some l) h = h.1

timings-are : (limits : Option (ℕ × ℕ)) (ds : List ℕ) → IfSome limits AreLimits → AreTwelve (2 ^ 60) ds → AreTimings (timings_with limits ds)
timings-are limits ds h t = (
  length-map ds (λ d. record { delay = d; limits = limits }) ∙ t.0,
  All-from_recursion IsTiming (timings_with limits ds)
      (all-map IsTiming (λ d. record { delay = d; limits = limits }) ds
      (all-weaker (λ d. d < 2 ^ 60) (λ d. IsTiming (record { delay = d; limits = limits })) ds
      (λ d lt. record { delay = lt; ordered = ordered limits h; error = bounded limits h }) t.1)),
)

short : (by : Measure) (values : Values) (d : Amounts) → delay_faults by values d ≡ [] → delay_ticks by values d < delay_limit
short by values d h =
    let a = corner_amount by.corner d in
    leb-false delay_limit (amount_ticks by values a)
    (no-fault (nat_le delay_limit (amount_ticks by values a)) BadDelay (amount_place a) (back (flat_map (unknown_faults values) (amount_parts d)) (long_faults by values a) h))

pub path-delays : (by : Measure) (values : Values) (place : Place) (ds : List Amounts) → list_faults by values place ds ≡ [] → AreTwelve (2 ^ 60) (twelve_delays by values ds)
path-delays by values place ds h =
    let list = map (delay_ticks by values) ds in
    let wrong = fault_if (is_err (expanded by values ds)) BadDelay place in
    twelve-below (2 ^ 60) list
    (all-map (λ n. n < 2 ^ 60) (delay_ticks by values) ds
    (all-weaker (λ d. delay_faults by values d ≡ []) (λ d. delay_ticks by values d < 2 ^ 60) ds (short by values)
    (flat-empty (delay_faults by values) ds (front (flat_map (delay_faults by values) ds) wrong h))))
    (no-fault (is_err (expanded by values ds)) BadDelay place (back (flat_map (delay_faults by values) ds) wrong h))

abbrev IsTimed : PathTo → Type 0
IsTimed p = AreTimings p.path.timings

path-timed : (by : Measure) (vs : List Variable) (values : Values) (ps : List Pulse) (p : SpecifyPath) → flat_map (pulse_faults by vs) ps ≡ [] → path_faults by vs values p ≡ []
    → AllByRecursion IsTimed (paths_of by vs values (limits_of by vs ps) p)
path-timed by vs values ps p limits h =
    let ends = end_faults vs p in
    let sides = side_faults vs p in
    let conds = flat_map (condition_faults vs p.place) (own_condition p.condition) in
    let sourced = source_faults vs p.destination.source in
    let lists = list_faults by values p.place p.delays in
    let e : lists ≡ [] = back sourced lists (back conds (sourced ++ lists) (back sides (conds ++ (sourced ++ lists)) (back ends (sides ++ (conds ++ (sourced ++ lists))) h))) in
    all-map IsTimed (path_between by vs values (limits_of by vs ps) p) (path_pairs vs p)
    (all-anyway (λ b. IsTimed (path_between by vs values (limits_of by vs ps) p b)) (path_pairs vs p)
    (λ b. timings-are (limits_of by vs ps b.0.name b.1.name) (twelve_delays by values p.delays) (given-limits by vs ps limits b.0.name b.1.name) (path-delays by values p.place p.delays e)))

kept : (b : NetBit) (ps : List PathTo) → AllByRecursion IsTimed ps → AllByRecursion (λ p. AreTimings p.timings) (paths_to b ps)
kept b ps h = all-map (λ p. AreTimings p.timings) (λ p. p.path) (filter (λ p. is_same_bit b p.output) ps) (all-filter IsTimed (λ p. is_same_bit b p.output) ps h)

-- all paths of an output of a module
abbrev pub AreTimed : PathOutput → Type 0
AreTimed o = AllByRecursion (λ p. AreTimings p.timings) o.paths

-- no specify path has a fault, and no limit of pulses
record AreSound (corner : Corner) (tick : ℤ) (m : Module) : Type 0 where
  limits : flat_map (pulse_faults (measure corner tick m) (variables m)) (pulses (specify_items m)) ≡ []
  paths : AllByRecursion (λ p. path_faults (measure corner tick m) (variables m) (value_of (parameters (specify_items m))) p ≡ []) (specify_paths (specify_items m))

are-sound : (corner : Corner) (tick : ℤ) (m : Module) → specify_faults corner tick m ≡ [] → AreSound corner tick m
are-sound corner tick m h =
    let by = measure corner tick m in
    let vs = variables m in
    let items = specify_items m in
    let each = path_faults by vs (value_of (parameters items)) in
    let limits = flat_map (pulse_faults by vs) (pulses items) in
    let paths = flat_map each (specify_paths items) in
    let styles = flat_map (style_faults vs) (style_texts items) in
    let rest = back (parameter_faults (parameters items)) (limits ++ (paths ++ styles)) h in
    record { limits = front limits (paths ++ styles) rest; paths = flat-empty each (specify_paths items) (front paths styles (back limits (paths ++ styles) rest)) }

pub paths-sound : (corner : Corner) (tick : ℤ) (m : Module) → specify_faults corner tick m ≡ []
    → AllByRecursion (λ p. path_faults (measure corner tick m) (variables m) (value_of (parameters (specify_items m))) p ≡ []) (specify_paths (specify_items m))
paths-sound corner tick m h = (are-sound corner tick m h).paths

pub outputs-timed : (corner : Corner) (tick : ℤ) (m : Module) → specify_faults corner tick m ≡ [] → AllByRecursion AreTimed (path_outputs corner tick m)
outputs-timed corner tick m h =
    let by = measure corner tick m in
    let vs = variables m in
    let items = specify_items m in
    let values = value_of (parameters items) in
    let sound = are-sound corner tick m h in
    let ps = module_paths by vs items in
    let timed : AllByRecursion IsTimed ps =
    all-flat_in IsTimed (paths_of by vs values (limits_of by vs (pulses items))) (specify_paths items)
    (all-weaker (λ p. path_faults by vs values p ≡ []) (λ p. AllByRecursion IsTimed (paths_of by vs values (limits_of by vs (pulses items)) p)) (specify_paths items)
    (λ p e. path-timed by vs values (pulses items) p sound.limits e) sound.paths) in
    all-map AreTimed (output_of vs (style_texts items) ps) (first_paths [] ps)
    (all-anyway (λ p. AreTimed (output_of vs (style_texts items) ps p)) (first_paths [] ps) (λ p. kept p.output ps timed))
