-- What a run leaves that is stopped after a time, and where a run goes on from a moment.
use Rattle.std.specs.Prelude.{◌≡◌, ℕ, suc, ◌+◌, ◌-◌, List, [], ◌∷◌, Result, Ok, Err, map}
use Rattle.sg_circuit.specs.Circuit.{Circuit}
use Rattle.sg_stimulus.specs.Stimulus.{Stimulus, sets_at}
use Rattle.time_checks.specs.declared.latest.Latest.{Latest}
use Rattle.time_checks.specs.Seen.{violation_seen}
use Rattle.sim_times.specs.Runs.{HasStoppedFrom, Origin, Setting, run_from, times_to}
use Rattle.sim_times.specs.Times.{count_shown}
use Rattle.sim_times.specs.Watching.{Call, end_call}
use Rattle.sim_times.specs.declared.runs.SimEnd.{SimEnd}
use Rattle.sim_rounds.specs.declared.stops.Until.{Until}
use Rattle.sim_rounds.specs.declared.stops.Until.TheVariants.{Ended, Paused}
use Rattle.sim_rounds.specs.Moments.{Fits, Moment, moment_of, run_of_moment, state_of}
use Rattle.sim_rounds.specs.MomentsSeen.{moment_seen}
use Rattle.sim_machine.specs.Simulated.{machine_since}

-- a run that goes on from a moment
abbrev pub setting_since : Circuit → Stimulus → (rounds : ℕ) → Moment → Setting
setting_since circuit stimulus rounds m = record { machine = machine_since circuit m.latest; first = state_of circuit m; sets = sets_at stimulus.steps; bound = rounds; end = stimulus.end }

-- the calls by which it was told of the moment: one, that says nothing changed
abbrev pub told_of : Moment → List Call
told_of m = end_call m.time m.nets ∷ []

abbrev pub origin_at : Circuit → (end : ℕ) → Moment → Origin
origin_at circuit end m = record { from = suc m.time; left = end - m.time; run = run_of_moment circuit m; told = told_of m; first = m.nets; last = m.last }

-- how a run that was to be stopped ended
abbrev pub end_of : Until → Result (Unit {0}) SimEnd
end_of (Paused moment tally) = Ok tt
end_of (Ended finished) = finished.end

-- it didn't end whole
abbrev pub IsUnfinished : Result (Unit {0}) SimEnd → Type 0
IsUnfinished (Ok u) = ⊥
IsUnfinished (Err e) = Unit {0}

-- the times up to a stop were made and told; the moment is what the run has come to, counted on from so many evaluations, and fits the circuit; or why it wasn't reached
abbrev pub HasStopped : {W S : Type 0} → (W → S → List Call → Type 0) → (W → S → List Call → Type 0) → W → W → S → S → Circuit → (earlier : List Latest) → Setting → Origin → (until evaluations taken : ℕ) → Until → Type 0
HasStopped stands broken w w' s s' circuit earlier setting o until evaluations taken (Paused moment tally) =
    HasStoppedFrom stands broken w w' s s' setting o (times_to o.from (suc until)) (map (λ v. violation_seen v) tally.violations.items) tally.last taken (Ok tt)
    × (moment_seen moment ≡ moment_of circuit earlier until (run_from setting o (times_to o.from (suc until))).run tally.last (count_shown (evaluations + taken)))
    × Fits circuit (moment_seen moment) × (tally.evaluations ≡ count_shown taken)
HasStopped stands broken w w' s s' circuit earlier setting o until evaluations taken (Ended finished) =
    IsUnfinished finished.end
    × HasStoppedFrom stands broken w w' s s' setting o (times_to o.from (suc until)) (map (λ v. violation_seen v) finished.tally.violations.items) finished.tally.last taken finished.end
    × (finished.tally.evaluations ≡ count_shown taken)
