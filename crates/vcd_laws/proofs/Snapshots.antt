-- The last snapshots of a whole run, by its nets after so many times.
use Rattle.std.specs.Prelude.{◌≡◌, ℕ, zero, suc, ◌+◌, ◌==◌, List, ◌∷◌, length, Some, None, refl}
use Rattle.std.proofs.Common.{sym, ◌∙◌, ap, arith}
use Rattle.sg_logic.specs.declared.values.Value.{Value}
use Rattle.sg_model.specs.Machine.{Machine, Snapshot}
use Rattle.sg_model.specs.Time.{Run, Ended, Whole, Spent, time_of}
use Rattle.sg_model.specs.Run.{lasts, times_from}
use Rattle.sg_model.proofs.RunSteps.{times-none, times-spent, times-whole}
use Rattle.sg_model.proofs.SnapshotLaws.{AddsSnapshots, AreBefore, rounds-snapshots, time-before, time-lasts}
use Rattle.sg_circuit.specs.Circuit.{Circuit}
use Rattle.sg_stimulus.specs.Stimulus.{Stimulus}
use Rattle.sim_rounds.specs.Setting.{setting_of}
use Rattle.sim_rounds.specs.Simulated.{run_of_circuit}
use Rattle.sim_times.specs.Runs.{Setting, start_of}
use Rattle.run_laws.specs.Inputs.{nets_after}
use Rattle.run_laws.proofs.Circuits.{Reached, nets_reached, reached_next, reached_start}
use Rattle.vcd_laws.proofs.Body.{shots}

lasts_from : (circuit : Circuit) (rounds : ℕ) (stimulus : Stimulus) (nets left t last : ℕ) (r : Run) → t + left ≡ last → Reached (setting_of circuit stimulus rounds) nets t r → AreBefore r.snapshots t
    → lasts r.snapshots ≡ shots (nets_after circuit rounds stimulus) t
    → (times_from left rounds (setting_of circuit stimulus rounds).machine (setting_of circuit stimulus rounds).sets t r).spent ≡ None
    → lasts (times_from left rounds (setting_of circuit stimulus rounds).machine (setting_of circuit stimulus rounds).sets t r).run.snapshots ≡ shots (nets_after circuit rounds stimulus) last
lasts_from circuit rounds stimulus nets zero t last r e here before are none =
    let s : Setting = setting_of circuit stimulus rounds in
    ap (λ f. lasts f.run.snapshots) (times-none rounds s.machine s.sets t r) ∙ (are ∙ ap (shots (nets_after circuit rounds stimulus)) (let q : t ≡ last = omega arith in q))
lasts_from circuit rounds stimulus nets (suc left) t last r e here before are none =
    at (time_of rounds machine sets t r) refl (λ next h b a n. lasts_from circuit rounds stimulus nets left (suc t) last next (omega arith) h b a n)
  where
    s : Setting
    s = setting_of circuit stimulus rounds

    machine : Machine
    machine = s.machine

    sets : ℕ → List (ℕ × Value)
    sets = s.sets

    at : (x : Ended) → time_of rounds machine sets t r ≡ x
        → ((next : Run) → Reached s nets (suc t) next → AreBefore next.snapshots (suc t) → lasts next.snapshots ≡ shots (nets_after circuit rounds stimulus) (suc t) → (times_from left rounds machine sets (suc t) next).spent ≡ None
        → lasts (times_from left rounds machine sets (suc t) next).run.snapshots ≡ shots (nets_after circuit rounds stimulus) last)
        → lasts (times_from (suc left) rounds machine sets t r).run.snapshots ≡ shots (nets_after circuit rounds stimulus) last
    at (Spent net evaluations) x rest = absurd (let k : Some (t, net) ≡ None = sym (ap (λ f. f.spent) (times-spent left rounds machine sets t r net evaluations x)) ∙ none in cc)
    at (Whole next) x rest =
        let on = times-whole left rounds machine sets t r next x in
        let adds : AddsSnapshots t r next = rounds-snapshots rounds machine t (t == 0) (sets t) r next x in
        let there : Reached s nets (suc t) next = reached_next s nets t r next here x in
        let now : nets_after circuit rounds stimulus (suc t) ≡ next.state.values = nets_reached circuit rounds stimulus nets (suc t) next there in
        ap (λ f. lasts f.run.snapshots) on
        ∙ rest next there (time-before t (suc t) r next adds (omega arith)) (time-lasts t r next adds before ∙ (ap (λ vs. record { time = t; values = vs } ∷ lasts r.snapshots) (sym now) ∙ ap (λ (ss : List Snapshot). record { time = t; values = nets_after circuit rounds stimulus (suc t) } ∷ ss) are))
        (sym (ap (λ f. f.spent) on) ∙ none)

pub lasts_are : (circuit : Circuit) (rounds : ℕ) (stimulus : Stimulus) → (run_of_circuit circuit rounds stimulus).spent ≡ None
    → lasts (run_of_circuit circuit rounds stimulus).run.snapshots ≡ shots (nets_after circuit rounds stimulus) (suc stimulus.end)
lasts_are circuit rounds stimulus none =
    let s : Setting = setting_of circuit stimulus rounds in
    lasts_from circuit rounds stimulus (length s.first.values) (suc stimulus.end) 0 (suc stimulus.end) (start_of s.first) (omega arith) (reached_start s (length s.first.values) refl) tt refl none
