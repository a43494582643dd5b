-- No rule places a value later than the longest delay of its element.
use Rattle.std.specs.Prelude.{◌≡◌, ℕ, zero, suc, ◌+◌, ◌<◌, ◌≤◌, ◌^◌, max, All, slice_get, List, [], ◌∷◌, ◌++◌, length, map, flat_map, take, slice_index_or, Option, Some, None, refl}
use Rattle.std.proofs.Common.{sym, ◌∙◌, ap, arith}
use Rattle.std.proofs.lemmas.List.{append-nil, get_or-map, take_more, take_all}
use Rattle.std.proofs.lemmas.List.Concat.{flat_map-append}
use Rattle.std.proofs.lemmas.List.Elements.{All-nil, All-cons, All-head, All-tail, All-weaker, All-filter, All-map}
use Rattle.sg_logic.specs.declared.values.Value.{Value}
use Rattle.sg_logic.specs.declared.values.Value.TheVariants.{Zero, One, X, Z}
use Rattle.sg_delay.specs.GateDelay.{of_two, of_three, delay_to}
use Rattle.sg_delay.specs.declared.limits.Limit.{Limit}
use Rattle.sg_model.specs.Machine.{Stamp}
use Rattle.sg_circuit.specs.Closed.{HasDelays, AreTimings, IsTiming}
use Rattle.sg_circuit.specs.TimingsSeen.{leg_timing_seen, timings_of}
use Rattle.sg_circuit.specs.PathsSeen.{path_seen, paths_seen}
use Rattle.sg_circuit.specs.declared.paths.Path as code_path
use Rattle.sg_circuit.specs.declared.elements.LegTiming.{LegTiming}
use Rattle.cond_expr.specs.Condition.{Condition}
use Rattle.sg_circuit.specs.Circuit.{Kind, Gate, Udp, Pass, Leg, Path, Late}
use Rattle.sg_circuit.specs.Paths as specify
use Rattle.sg_circuit.specs.Timings.{Timing, timing_at, timing_between}
use Rattle.path_pick.specs.Choice.{time_of, stamp_at, input_time, delay_of, allowed, on_edge, latest, quickest, chosen, picked_for}
use Rattle.fan_round.specs.Rounds.{time_of_rule}
use Rattle.sim_rounds.specs.Simulated.{rule_of_kind}
use Rattle.settle_bound.specs.Hops.{longest, longest_delay}
use Rattle.settle_bound.proofs.Deadlines.{IsStamped, AreStamped}

longest-append : (xs ys : List ℕ) → longest (xs ++ ys) ≡ max (longest xs) (longest ys)
longest-append [] ys = omega arith
longest-append (x ∷ xs) ys = let h = longest-append xs ys in omega arith

two-longest : (rise fall : ℕ) (to : Value) → of_two rise fall to ≤ max rise (max fall 0)
two-longest rise fall One = omega arith
two-longest rise fall Zero = omega arith
two-longest rise fall X = omega arith
two-longest rise fall Z = omega arith

three-longest : (rise fall off rest : ℕ) (to : Value) → of_three rise fall off to ≤ max rise (max fall (max off rest))
three-longest rise fall off rest One = omega arith
three-longest rise fall off rest Zero = omega arith
three-longest rise fall off rest X = omega arith
three-longest rise fall off rest Z = omega arith

gate-longest : (delays : List ℕ) (to : Value) → delay_to delays to ≤ longest delays
gate-longest [] to = omega arith
gate-longest (delay ∷ []) to = omega arith
gate-longest (rise ∷ fall ∷ []) to = two-longest rise fall to
gate-longest (rise ∷ fall ∷ off ∷ rest) to = three-longest rise fall off (longest rest) to

-- of timings
place-longest : (timings : List Timing) (place : ℕ) → (slice_index_or timings place (record { delay = 0; limits = None })).delay ≤ longest (map (λ t. t.delay) timings)
place-longest [] place = omega arith
place-longest (t ∷ ts) zero = omega arith
place-longest (t ∷ ts) (suc place) = let h = place-longest ts place in omega arith

timing-longest : (timings : List Timing) (place : Option ℕ) → (timing_at timings place).delay ≤ longest (map (λ t. t.delay) timings)
timing-longest timings None = omega arith
timing-longest timings (Some place) = place-longest timings place

-- of paths
abbrev all_delays : List specify.Path → List ℕ
all_delays paths = flat_map (λ p. map (λ t. t.delay) p.timings) paths

abbrev IsShorter : ℕ → specify.Path → Type 0
IsShorter top p = longest (map (λ t. t.delay) p.timings) ≤ top

paths-shorter : (paths : List specify.Path) → All (IsShorter (longest (all_delays paths))) paths
paths-shorter [] = All-nil (IsShorter 0)
paths-shorter (p ∷ ps) =
    let both : longest (all_delays (p ∷ ps)) ≡ max (longest (map (λ t. t.delay) p.timings)) (longest (all_delays ps)) = longest-append (map (λ t. t.delay) p.timings) (all_delays ps) in
    All-cons (IsShorter (longest (all_delays (p ∷ ps)))) p ps (omega arith)
    (All-weaker (IsShorter (longest (all_delays ps))) (IsShorter (longest (all_delays (p ∷ ps)))) (λ q l. omega arith) ps (paths-shorter ps))

abbrev IfShorter : ℕ → Option specify.Path → Type 0
IfShorter top None = Unit {0}
IfShorter top (Some p) = IsShorter top p

first-shorter : (top : ℕ) (paths : List specify.Path) → All (IsShorter top) paths → IfShorter top (slice_get paths 0)
first-shorter top [] h = tt
first-shorter top (p ∷ ps) h = All-head (IsShorter top) p ps h

chosen-shorter : (paths : List specify.Path) (values : List Value) (stamps : List (Option Stamp)) (from to : Value) → IfShorter (longest (all_delays paths)) (chosen paths values stamps from to)
chosen-shorter paths values stamps from to =
    let top : ℕ = longest (all_delays paths) in
    first-shorter top (quickest from to (latest stamps (on_edge stamps (allowed values paths))))
    (All-filter _ (IsShorter top) (latest stamps (on_edge stamps (allowed values paths)))
    (All-filter _ (IsShorter top) (on_edge stamps (allowed values paths))
    (All-filter _ (IsShorter top) (allowed values paths)
    (All-filter _ (IsShorter top) paths (paths-shorter paths)))))

stamped-time : (now : ℕ) (stamp : Option Stamp) → IsStamped now stamp → time_of stamp ≤ now
stamped-time now None h = omega arith
stamped-time now (Some stamp) h = h

picked-soon : (now top : ℕ) (stamps : List (Option Stamp)) (from to : Value) (path : Option specify.Path) → AreStamped now stamps → IfShorter top path → (picked_for now stamps from to path).time ≤ now + top
picked-soon now top stamps from to None s h = omega arith
picked-soon now top stamps from to (Some p) s h =
    let t : input_time stamps p ≤ now = stamped-time now (stamp_at stamps p.input) (s p.input) in
    let d : delay_of from to p ≤ longest (map (λ x. x.delay) p.timings) = timing-longest p.timings _ in
    let l : longest (map (λ x. x.delay) p.timings) ≤ top = h in
    omega arith

pub placed-soon : (kind : Kind) (now : ℕ) (values : List Value) (stamps : List (Option Stamp)) (from to : Value) → AreStamped now stamps → time_of_rule (rule_of_kind kind now values stamps from to) ≤ now + longest_delay kind
placed-soon (Gate kind delays) now values stamps from to s = let l = gate-longest delays to in omega arith
placed-soon (Udp primitive first delays) now values stamps from to s = let l = gate-longest delays to in omega arith
placed-soon (Pass constant) now values stamps from to s = omega arith
placed-soon (Leg timings) now values stamps from to s = let l : (timing_between timings from to).delay ≤ longest (map (λ t. t.delay) timings) = timing-longest timings _ in omega arith
placed-soon (Path paths style) now values stamps from to s = picked-soon now (longest (all_delays paths)) stamps from to (chosen paths values stamps from to) s (chosen-shorter paths values stamps from to)
placed-soon (Late delay) now values stamps from to s = omega arith

-- one delay more
pub longest-more : (delays : List ℕ) (i d most : ℕ) → i < length delays → most ≡ longest (take i delays) → max most (slice_index_or delays i d) ≡ longest (take (i + 1) delays)
longest-more delays i d most l e =
    let more : longest (take (i + 1) delays) ≡ max (longest (take i delays)) (longest (slice_index_or delays i d ∷ [])) = ap longest (take_more delays i d l) ∙ longest-append (take i delays) (slice_index_or delays i d ∷ []) in
    omega arith

pub longest-all : (delays : List ℕ) (i most : ℕ) → length delays ≤ i → most ≡ longest (take i delays) → most ≡ longest delays
longest-all delays i most l e = e ∙ ap longest (take_all i delays l)

-- the delays of timings that were read from delays and limits
pub delays-seen : (delays : List ℕ) (limits : List Limit) → length delays ≡ length limits → map (λ t. t.delay) (timings_of delays limits) ≡ delays
delays-seen [] limits e = refl
delays-seen (d ∷ ds) [] e = absurd (omega arith)
delays-seen (d ∷ ds) (l ∷ ls) e = ap (λ xs. d ∷ xs) (delays-seen ds ls (omega arith))

-- the delays of one path more
pub paths-more : (paths : List specify.Path) (i : ℕ) (d : specify.Path) (most one : ℕ) → i < length paths → most ≡ longest (all_delays (take i paths)) → one ≡ longest (map (λ t. t.delay) (slice_index_or paths i d).timings) → max most one ≡ longest (all_delays (take (i + 1) paths))
paths-more paths i d most one l e f =
    let joined : all_delays (take (i + 1) paths) ≡ all_delays (take i paths) ++ all_delays (slice_index_or paths i d ∷ []) = ap all_delays (take_more paths i d l) ∙ flat_map-append (λ p. map (λ t. t.delay) p.timings) (take i paths) (slice_index_or paths i d ∷ []) in
    let more : longest (all_delays (take (i + 1) paths)) ≡ max (longest (all_delays (take i paths))) (longest (all_delays (slice_index_or paths i d ∷ []))) = ap longest joined ∙ longest-append (all_delays (take i paths)) (all_delays (slice_index_or paths i d ∷ [])) in
    let only : longest (all_delays (slice_index_or paths i d ∷ [])) ≡ longest (map (λ t. t.delay) (slice_index_or paths i d).timings) = ap longest (append-nil (map (λ t. t.delay) (slice_index_or paths i d).timings)) in
    omega arith

-- delays below a number
below-longest : (top : ℕ) (delays : List ℕ) → 0 < top → All (λ d. d < top) delays → longest delays < top
below-longest top [] some h = some
below-longest top (d ∷ ds) some h = let l : d < top = All-head (λ x. x < top) d ds h in let m = below-longest top ds some (All-tail (λ x. x < top) d ds h) in omega arith

timings-below : (timings : List Timing) → AreTimings timings → longest (map (λ t. t.delay) timings) < 2 ^ 60
timings-below timings h = below-longest (2 ^ 60) (map (λ t. t.delay) timings) (omega arith) (All-map (λ d. d < 2 ^ 60) (λ (t : Timing). t.delay) timings (All-weaker IsTiming (λ t. t.delay < 2 ^ 60) (λ t i. i.delay) timings h.1))

paths-below : (paths : List specify.Path) → All (λ p. AreTimings p.timings) paths → longest (all_delays paths) < 2 ^ 60
paths-below [] h = omega arith
paths-below (p ∷ ps) h =
    let one = timings-below p.timings (All-head (λ q. AreTimings q.timings) p ps h) in
    let rest = paths-below ps (All-tail (λ q. AreTimings q.timings) p ps h) in
    let both : longest (all_delays (p ∷ ps)) ≡ max (longest (map (λ t. t.delay) p.timings)) (longest (all_delays ps)) = longest-append (map (λ t. t.delay) p.timings) (all_delays ps) in
    omega arith

-- no element is 2^60 ticks late
pub delay-below : (kind : Kind) → HasDelays kind → longest_delay kind < 2 ^ 60
delay-below (Gate kind delays) h = below-longest (2 ^ 60) delays (omega arith) h.1
delay-below (Udp primitive first delays) h = below-longest (2 ^ 60) delays (omega arith) h.1
delay-below (Pass constant) h = omega arith
delay-below (Leg timings) h = timings-below timings h
delay-below (Path paths style) h = paths-below paths h
delay-below (Late delay) h = h

-- the timings of a path, as the code reads them
pub path-timings : (conditions : List Condition) (timings : List LegTiming) (paths : List code_path.Path) (i : ℕ) (p : code_path.Path) (t : LegTiming) → i < length paths → p ≡ slice_index_or paths i p → p.timing < length timings → t ≡ slice_index_or timings p.timing t
    → leg_timing_seen t ≡ (slice_index_or (paths_seen conditions timings paths) i (path_seen conditions timings p)).timings
path-timings conditions timings paths i p t l is m at =
    let one : slice_index_or (paths_seen conditions timings paths) i (path_seen conditions timings p) ≡ path_seen conditions timings p = get_or-map (path_seen conditions timings) paths i p (path_seen conditions timings p) l ∙ ap (path_seen conditions timings) (sym is) in
    sym (ap (λ (x : specify.Path). x.timings) one ∙ (get_or-map (λ (x : LegTiming). leg_timing_seen x) timings p.timing t [] m ∙ ap (λ (x : LegTiming). leg_timing_seen x) (sym at)))

pub paths-all : (paths : List specify.Path) (i most : ℕ) → length paths ≤ i → most ≡ longest (all_delays (take i paths)) → most ≡ longest (all_delays paths)
paths-all paths i most l e = e ∙ ap (λ ps. longest (all_delays ps)) (take_all i paths l)
