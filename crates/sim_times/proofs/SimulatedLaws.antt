-- A simulation from one time to the next.
use Rattle.std.specs.Prelude.{◌≡◌, ◌≢◌, ◌⊎◌, ℕ, ◌+◌, ◌<◌, ◌≤◌, ◌==◌, Bool, false, true, All, List, [], ◌∷◌, length, map, reverse, slice_index_or, Result, Ok, Err, refl}
use Rattle.std.proofs.Common.{sym, ◌∙◌, ap, subst, arith, inl, inr}
use Rattle.std.proofs.lemmas.List.{get_or-map, length-map}
use Rattle.std.proofs.lemmas.Bool.Decides.{nat_tests}
use Rattle.sg_logic.specs.declared.values.Value.{Value}
use Rattle.sg_model.specs.Values.{value_at}
use Rattle.sg_model.specs.Pending.{Follows}
use Rattle.sg_model.specs.Agenda.{list_at, NoneBelow, NothingBelow}
use Rattle.sg_model.specs.Machine.{Machine, Snapshot, Violation}
use Rattle.sg_model.specs.Round.{any_due}
use Rattle.sg_model.specs.Time as model
use Rattle.sg_model.specs.Time.{Run, rounds}
use Rattle.pulse_list.proofs.EarliestLaws.{none_below-reverse}
use Rattle.sg_stimulus.specs.declared.steps.Set.{Set}
use Rattle.sg_stimulus.specs.Seen.{set_seen}
use Rattle.sg_stimulus.specs.Stimulus.{Stimulus, sets_at}
use Rattle.time_checks.specs.declared.violations.Violation as code_violation
use Rattle.fan_round.specs.declared.nets.Nets.{Nets}
use Rattle.sim_times.specs.declared.told.Told.{Told}
use Rattle.fan_round.specs.declared.work.WorkList.{WorkList}
use Rattle.sim_times.specs.declared.runs.SimEnd.{SimEnd}
use Rattle.sim_times.specs.declared.runs.SimEnd.TheVariants.{NoMemory}
use Rattle.fan_round.specs.Rounds.{AreHanded}
use Rattle.sim_times.specs.Told.{IsTold}
use Rattle.sim_times.specs.Times.{count_shown, RoundsEnd}
use Rattle.sim_times.specs.declared.times.TimeEnd.TheVariants.{Whole}
use Rattle.sim_times.specs.Skipping.{later_falls}
use Rattle.sim_times.specs.Runs.{TimeMade}
use Rattle.sim_times.specs.Simulations.{IsReadyAt, StandsBetween, StandsFor}
use Rattle.sim_times.specs.Steps.{CanApply}
use Rattle.sim_times.proofs.TimeLaws.{rounds-evaluations, counted_same}

-- no time was made
pub none_made : (m : Machine) (sets : ℕ → List (ℕ × Value)) (bound now : ℕ) (stands after : Run → Type 0) (counted steps : ℕ) (result : Result (Unit {0}) SimEnd) (e : SimEnd) → ((r : Run) → stands r → counted ≡ count_shown r.evaluations) → result ≡ Err e → e ≡ NoMemory
    → TimeMade m sets bound now stands after counted steps steps result
none_made m sets bound now stands after counted steps result e counts is none =
    subst (TimeMade m sets bound now stands after counted steps steps) (sym (is ∙ ap (λ x. Err x) none))
    (record { each = λ r h. (r.evaluations, rounds-evaluations bound m now (now == 0) (sets now) r, counted_same r counted counted steps steps (counts r h) refl refl) })

-- a time was made, and the next one begins
pub time_made : (m : Machine) (sets : ℕ → List (ℕ × Value)) (bound now : ℕ) (handed : List (ℕ × Value)) (mid late stands after : Run → Type 0) (counted steps steps' : ℕ) → handed ≡ sets now → ((r : Run) → stands r → mid r) → ((r : Run) → late r → after r)
    → RoundsEnd bound m now (now == 0) handed mid late counted steps steps' Whole → TimeMade m sets bound now stands after counted steps steps' (Ok tt)
time_made m sets bound now handed mid late stands after counted steps steps' e before behind ended = record {
  each = λ r h.
      (let w = ended.each r (before r h) in
      (w.0, subst (λ cs. rounds bound m now (now == 0) cs r ≡ model.Whole w.0) e w.1, behind w.0 w.2, w.3));
}

pub stands_later : (nets : Nets) (lists : List (List (ℕ × Value))) (states : List Value) (seen : List Snapshot → Type 0) (found : List code_violation.Violation) (counted ended now : ℕ) (r : Run) → length found ≤ ended
    → StandsFor nets lists states seen found counted now r → StandsBetween nets lists states seen found counted ended (now + 1) r
stands_later nets lists states seen found counted ended now r whole h = record {
  run = record {
    state = h.state;
    before = h.before;
    checks = h.checks;
    times = later_falls now (now + 1) r.snapshots (omega arith) h.times;
    violations = h.violations;
    evaluations = h.evaluations;
  };
  whole = whole;
}

-- what the stimulus sets can be handed in
pub hand_ready : (all : Bool) (now : ℕ) (m : Machine) (net_count : ℕ) (fan : List (List ℕ)) (driven : List ℕ) (nets : Nets) (told : Told) (work : WorkList) (lists : List (List (ℕ × Value))) (states : List Value) (found_by : List Snapshot → List Violation) (toggled_by : List Violation → List ℕ) (sets sets' given : List Set) (ended : ℕ) (found : List code_violation.Violation) (stimulus : Stimulus)
    → IsReadyAt all now m net_count fan driven nets told work lists states found_by toggled_by sets ended found → CanApply driven (length nets.values.items) stimulus → sets' ≡ given → map (λ c. set_seen c) given ≡ sets_at stimulus.steps now
    → IsReadyAt all now m net_count fan driven nets told work lists states found_by toggled_by sets' ended found
hand_ready all now m net_count fan driven nets told work lists states found_by toggled_by sets sets' given ended found stimulus h can e is =
    let made : map (λ c. set_seen c) sets' ≡ sets_at stimulus.steps now = ap (λ cs. map (λ c. set_seen c) cs) e ∙ is in
    record {
      round = h.round;
      count = h.count;
      checks = h.checks;
      within = each_within (length nets.values.items) sets' (subst (All (λ c. c.0 < length nets.values.items)) (sym made) (can.within now));
      free = subst (AreHanded driven) (sym made) (can.free now);
      told = h.told;
      begun = h.begun;
    }
  where
    each_within : (n : ℕ) (cs : List Set) → All (λ c. c.0 < n) (map (λ c. set_seen c) cs) → All (λ c. c.net < n) cs
    each_within n cs h = λ i d l. subst (λ x. x.0 < n) (get_or-map (λ c. set_seen c) cs i d (set_seen d) l) (h i (set_seen d) (subst (λ k. i < k) (sym (length-map cs (λ c. set_seen c))) l))

-- no time but the first is time 0
pub later_test : (n : ℕ) → 0 < n → (n == 0) ≡ false
later_test n l = grind (arith, nat_tests)

-- a time ended, and what changed in it was told
pub ended_ready : (now next : ℕ) (m m' : Machine) (net_count : ℕ) (fan : List (List ℕ)) (driven driven' : List ℕ) (nets nets' : Nets) (told told' : Told) (work : WorkList) (lists : List (List (ℕ × Value))) (states : List Value) (found_by : List Snapshot → List Violation) (toggled_by : List Violation → List ℕ) (sets : List Set) (ended ended' : ℕ) (found : List code_violation.Violation) (stimulus stimulus' : Stimulus) (over : Type 0)
    → IsReadyAt false next m' net_count fan driven' nets' told work lists states found_by toggled_by sets ended found × over → next ≡ now + 1 → IsTold told' nets'.values.items → ended' ≤ length found
    → CanApply driven (length nets.values.items) stimulus → driven ≡ driven' → length nets'.values.items ≡ length nets.values.items → stimulus' ≡ stimulus
    → IsReadyAt (next == 0) next m' net_count fan driven' nets' told' work lists states found_by toggled_by sets ended' found × (over × CanApply driven' (length nets'.values.items) stimulus')
ended_ready now next m m' net_count fan driven driven' nets nets' told told' work lists states found_by toggled_by sets ended ended' found stimulus stimulus' over h n t b can d l s = (
  subst (λ all. IsReadyAt all next m' net_count fan driven' nets' told' work lists states found_by toggled_by sets ended' found) (sym (later_test next (omega arith)))
      (record { round = h.0.round; count = h.0.count; checks = h.0.checks; within = h.0.within; free = h.0.free; told = t; begun = b }),
  (h.1, subst (λ x. CanApply driven' (length nets'.values.items) x) (sym s) (subst (λ x. CanApply driven' x stimulus) (sym l) (subst (λ x. CanApply x (length nets.values.items) stimulus) d can))),
)

-- the next time isn't quiet
pub busy_next : (result next end : ℕ) (lists ls : List (List (ℕ × Value))) (sets : ℕ → List (ℕ × Value)) → result ≤ next → (result < next → any_due result lists ≡ true) → (next < end + 1 → sets next ≢ []) → result ≤ end
    → ls ≡ lists → sets result ≡ [] → any_due result ls ≡ false → ⊥
busy_next result next end lists ls sets within due set upto same no_set not_due = at (before_or_at result next)
  where
    before_or_at : (a b : ℕ) → (a < b) ⊎ (b ≤ a)
    before_or_at a b = grind arith

    at : (result < next) ⊎ (next ≤ result) → ⊥
    at (inl before) = let k : true ≡ false = sym (due before) ∙ (ap (any_due result) (sym same) ∙ not_due) in cc
    at (inr last) =
        let is : next ≡ result = omega arith in
        set (omega arith) (ap sets is ∙ no_set)

-- where nothing is pending before a time
later_follows : (xs : List (ℕ × Value)) (present : Value) (now t : ℕ) → Follows xs present now → NoneBelow t xs → Follows xs present t
later_follows [] present now t h b = tt
later_follows (p ∷ ps) present now t h b = (h.0, h.1, b.0, later_follows ps present now t h.3 b.1)

pub skip_ready : (now next : ℕ) (m : Machine) (net_count : ℕ) (fan : List (List ℕ)) (driven : List ℕ) (nets : Nets) (told : Told) (work : WorkList) (lists lists' : List (List (ℕ × Value))) (states : List Value) (found_by : List Snapshot → List Violation) (toggled_by : List Violation → List ℕ) (sets : List Set) (ended : ℕ) (found : List code_violation.Violation)
    → IsReadyAt (now + 1 == 0) (now + 1) m net_count fan driven nets told work lists states found_by toggled_by sets ended found → now < next → NothingBelow next lists → lists' ≡ lists
    → IsReadyAt (next == 0) next m net_count fan driven nets told work lists' states found_by toggled_by sets ended found
skip_ready now next m net_count fan driven nets told work lists lists' states found_by toggled_by sets ended found h l below e =
    subst (λ all. IsReadyAt all next m net_count fan driven nets told work lists' states found_by toggled_by sets ended found) (sym (later_test next (omega arith)))
    (subst (λ ls. IsReadyAt false next m net_count fan driven nets told work ls states found_by toggled_by sets ended found) (sym e) (record {
      round = record {
        circuit = h.round.circuit;
        state_of_each = h.round.state_of_each;
        settled = λ k. h.round.settled (later_test (now + 1) (omega arith));
        nets_are = h.round.nets_are;
        idle = h.round.idle;
        in_order = record { each = λ d k. later_follows (reverse (list_at lists d)) (value_at nets.values.items (slice_index_or driven d 0)) (now + 1) next (h.round.in_order.each d k) (none_below-reverse next (list_at lists d) (below d k)) };
      };
      count = h.count;
      checks = h.checks;
      within = h.within;
      free = h.free;
      told = h.told;
      begun = h.begun;
    }))
