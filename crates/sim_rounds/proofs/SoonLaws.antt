-- Where no net changed after now, a rule with delays below 2^60 places a value less than 2^60 ticks later.
use Rattle.std.specs.Prelude.{ℕ, ◌+◌, ◌<◌, ◌≤◌, ◌^◌, All, List, [], ◌∷◌, length, slice_get, slice_index_or}
use Rattle.std.proofs.Common.{sym, subst, arith, inl, inr}
use Rattle.std.proofs.lemmas.Bool.{cases_lt}
use Rattle.std.proofs.lemmas.List.{get_or_past}
use Rattle.std.proofs.lemmas.List.Elements.{All-filter, All-head}
use Rattle.std.specs.declared.option.Option.{Option}
use Rattle.std.specs.declared.option.Option.TheVariants.{Some, None}
use Rattle.sg_logic.specs.declared.values.Value.{Value}
use Rattle.sg_delay.specs.GateDelay.{delay_to}
use Rattle.sg_model.specs.Machine.{Stamp}
use Rattle.sg_circuit.specs.Circuit.{Kind, Gate, Udp, Pass, Leg, Path, Late}
use Rattle.sg_circuit.specs.Closed.{AreTimings, HasDelays}
use Rattle.sg_circuit.specs.Paths as specify
use Rattle.sg_circuit.specs.Timings.{Timing, timing_at, timing_between}
use Rattle.path_pick.specs.Choice.{time_of, stamp_at, input_time, delay_of, allowed, on_edge, latest, quickest, chosen, picked_for}
use Rattle.fan_round.specs.Rounds.{time_of_rule}
use Rattle.sim_machine.specs.Simulated.{rule_of_kind}
use Rattle.sim_machine.proofs.DelayLaws.{delay_fits}

place_fits : (timings : List Timing) (place : ℕ) → AreTimings timings → (slice_index_or timings place (record { delay = 0; limits = None })).delay < 2 ^ 60
place_fits timings place h = elim (cases_lt place (length timings)) [
  | inl l ↦ (h.1 place (record { delay = 0; limits = None }) l).delay
  | inr past ↦ subst (λ (t : Timing). t.delay < 2 ^ 60) (sym (get_or_past timings place (record { delay = 0; limits = None }) past)) (let l : 0 < 2 ^ 60 = omega arith in l)
]

timing_fits : (timings : List Timing) (place : Option ℕ) → AreTimings timings → (timing_at timings place).delay < 2 ^ 60
timing_fits timings None h = omega arith
timing_fits timings (Some place) h = place_fits timings place h

-- of a path that is chosen
abbrev IfChosen : Option specify.Path → Type 0
IfChosen None = Unit {0}
IfChosen (Some p) = AreTimings p.timings

first_of_them : (paths : List specify.Path) → All (λ p. AreTimings p.timings) paths → IfChosen (slice_get paths 0)
first_of_them [] h = tt
first_of_them (p ∷ ps) h = All-head (λ (q : specify.Path). AreTimings q.timings) p ps h

chosen_has : (paths : List specify.Path) (values : List Value) (stamps : List (Option Stamp)) (from to : Value) → All (λ p. AreTimings p.timings) paths → IfChosen (chosen paths values stamps from to)
chosen_has paths values stamps from to h =
    first_of_them (quickest from to (latest stamps (on_edge stamps (allowed values paths))))
    (All-filter _ (λ (p : specify.Path). AreTimings p.timings) (latest stamps (on_edge stamps (allowed values paths)))
    (All-filter _ (λ (p : specify.Path). AreTimings p.timings) (on_edge stamps (allowed values paths))
    (All-filter _ (λ (p : specify.Path). AreTimings p.timings) (allowed values paths)
    (All-filter _ (λ (p : specify.Path). AreTimings p.timings) paths h))))

picked_soon : (now : ℕ) (stamps : List (Option Stamp)) (from to : Value) (path : Option specify.Path) → ((net : ℕ) → time_of (stamp_at stamps net) ≤ now) → IfChosen path → (picked_for now stamps from to path).time < now + 2 ^ 60
picked_soon now stamps from to None s h = omega arith
picked_soon now stamps from to (Some p) s h =
    let t : input_time stamps p ≤ now = s p.input in
    let d : delay_of from to p < 2 ^ 60 = timing_fits p.timings _ h in
    omega arith

pub placed_soon : (kind : Kind) → HasDelays kind → (now : ℕ) (values : List Value) (stamps : List (Option Stamp)) (from to : Value) → ((net : ℕ) → time_of (stamp_at stamps net) ≤ now)
    → time_of_rule (rule_of_kind kind now values stamps from to) < now + 2 ^ 60
placed_soon (Gate kind delays) h now values stamps from to s = let l : delay_to delays to < 2 ^ 60 = delay_fits delays to (2 ^ 60) (omega arith) h.1 in omega arith
placed_soon (Udp primitive first delays) h now values stamps from to s = let l : delay_to delays to < 2 ^ 60 = delay_fits delays to (2 ^ 60) (omega arith) h.1 in omega arith
placed_soon (Pass constant) h now values stamps from to s = omega arith
placed_soon (Leg timings) h now values stamps from to s = let l : (timing_between timings from to).delay < 2 ^ 60 = timing_fits timings _ h in omega arith
placed_soon (Path paths style) h now values stamps from to s = picked_soon now stamps from to (chosen paths values stamps from to) s (chosen_has paths values stamps from to h)
placed_soon (Late delay) h now values stamps from to s = let l : delay < 2 ^ 60 = h in omega arith
