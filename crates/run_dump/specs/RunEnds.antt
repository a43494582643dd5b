-- What joins the engine's run of a circuit to the answer of a run with its dump: what a run leaves, and how its end is answered.
use Rattle.std.specs.Prelude.{ℕ, ◌≡◌, List, [], Option, Some, None, Result, Ok, Err, map}
use Rattle.std.specs.Global.{Vec}
use Rattle.sg_io.specs.declared.outside.ShelfError.{ShelfError}
use Rattle.sg_io.specs.declared.outside.ShelfError.TheVariants as shelf
use Rattle.sg_circuit.specs.Circuit.{Circuit}
use Rattle.sg_model.specs.Machine.{Violation}
use Rattle.sg_model.specs.Run.{Finished}
use Rattle.time_checks.specs.Seen.{violation_seen}
use Rattle.time_checks.specs.declared.violations.Violation as code_violation
use Rattle.sim_times.specs.Runs.{Origin, Setting, HasEndedFrom, origin_of}
use Rattle.sim_times.specs.Times.{count_shown}
use Rattle.sim_times.specs.Watching.{Call}
use Rattle.sim_times.specs.declared.runs.SimEnd.{SimEnd}
use Rattle.sim_times.specs.declared.runs.SimEnd.TheVariants.{RoundsSpent, WatchFailed, NoMemory}
use Rattle.sim_rounds.specs.Moments.{Fits, moment_after}
use Rattle.sim_rounds.specs.MomentsSeen.{moment_seen}
use Rattle.sim_rounds.specs.Stopping.{HasStopped}
use Rattle.sim_rounds.specs.declared.sim.Finished as code_finished
use Rattle.sim_rounds.specs.declared.stops.Until.{Until}
use Rattle.sim_rounds.specs.declared.stops.Until.TheVariants.{Ended, Paused}
use Rattle.run_report.specs.declared.report.Spent as code_spent
use Rattle.run_dump.specs.declared.run.RunEnd as code_end
use Rattle.run_dump.specs.declared.stops.StopEnd as code_stop
use Rattle.run_dump.specs.declared.stops.Reached as code_reached
use Rattle.run_dump.specs.declared.stops.Reached.TheVariants as reached

-- the engine made a run from an origin on, told it to its watcher, and counted what it evaluated; or there was no memory for the engine, and nothing was called
abbrev pub HasSimulatedFrom : {W S E : Type 0} → (W → S → List Call → Type 0) → (W → S → List Call → Type 0) → W → W → S → S → Setting → Origin → Result code_finished.Finished E → Type 0
HasSimulatedFrom stands broken w w' s s' setting o (Ok f) =
    (taken : ℕ) × HasEndedFrom stands broken w w' s s' setting o (map (λ v. violation_seen v) f.tally.violations.items) f.tally.last taken f.end × (f.tally.evaluations ≡ count_shown taken)
HasSimulatedFrom stands broken w w' s s' setting o (Err e) = (w' ≡ w) × (s' ≡ s)

abbrev pub HasSimulated : {W S E : Type 0} → (W → S → List Call → Type 0) → (W → S → List Call → Type 0) → W → W → S → S → Setting → Result code_finished.Finished E → Type 0
HasSimulated stands broken w w' s s' setting result = HasSimulatedFrom stands broken w w' s s' setting (origin_of setting) result

-- the same of a run up to a time
abbrev pub HasSimulatedUntil : {W S E : Type 0} → (W → S → List Call → Type 0) → (W → S → List Call → Type 0) → W → W → S → S → Circuit → Setting → (until : ℕ) → Result Until E → Type 0
HasSimulatedUntil stands broken w w' s s' circuit setting until (Ok run) = (taken : ℕ) × HasStopped stands broken w w' s s' circuit [] setting (origin_of setting) until 0 taken run
HasSimulatedUntil stands broken w w' s s' circuit setting until (Err e) = (w' ≡ w) × (s' ≡ s)

-- how a run ended, as it is answered: an end, with the time that was spent if there was one, or why there is none
abbrev pub spent_in : Result (Unit {0}) SimEnd → Result (Option code_spent.Spent) ShelfError
spent_in (Ok u) = Ok None
spent_in (Err (RoundsSpent time net)) = Ok (Some (record { time = time; net = net }))
spent_in (Err WatchFailed) = Err shelf.Failed
spent_in (Err NoMemory) = Err shelf.NoMemory

-- what a run came to: what it found, with the time that was spent if there was one
abbrev pub with_found : Vec code_violation.Violation → Result (Option code_spent.Spent) ShelfError → Result code_end.RunEnd ShelfError
with_found violations (Ok spent) = Ok (record { violations = violations; spent = spent })
with_found violations (Err e) = Err e

abbrev pub end_in : code_finished.Finished → Result code_end.RunEnd ShelfError
end_in f = with_found f.tally.violations (spent_in f.end)

-- what a run came to that was to be stopped, and was spent; it doesn't end whole
abbrev pub with_spent : Vec code_violation.Violation → Result (Option code_spent.Spent) ShelfError → Result code_stop.StopEnd ShelfError
with_spent violations (Ok None) = Err shelf.NoMemory
with_spent violations (Ok (Some spent)) = Ok (record { violations = violations; reached = reached.Spent spent })
with_spent violations (Err e) = Err e

abbrev pub stop_in : Until → Result code_stop.StopEnd ShelfError
stop_in (Paused moment tally) = Ok (record { violations = tally.violations; reached = reached.Stop moment })
stop_in (Ended finished) = with_spent finished.tally.violations (spent_in finished.end)

-- the violations that a run found
abbrev pub violations_of : code_end.RunEnd → List Violation
violations_of end = map (λ v. violation_seen v) end.violations.items

-- the watcher failed
abbrev pub WatcherFails : Result (Unit {0}) SimEnd → Type 0
WatcherFails (Err WatchFailed) = Unit {0}
WatcherFails _ = ⊥

-- a run came to an end, with this time spent, if one was
abbrev pub IsSpent : Option code_spent.Spent → Result (Unit {0}) SimEnd → Type 0
IsSpent spent end = ◌≡◌ {A = Result (Option code_spent.Spent) ShelfError} (Ok spent) (spent_in end)

-- how far a run came that was to be stopped after a time: to a moment that is its own and fits the circuit, where no time was spent; or to the spent one
abbrev pub HasReached : Circuit → Finished → (until : ℕ) → code_reached.Reached → Type 0
HasReached circuit run until (reached.Stop moment) =
    (run.spent ≡ None) × (moment_seen moment ≡ moment_after circuit until run) × Fits circuit (moment_seen moment)
HasReached circuit run until (reached.Spent s) = run.spent ≡ Some (s.time, Some s.net)
