-- What a run that is stopped leaves in the file of its dump, and what it tells, is what the definition's run up to there has.
use Rattle.std.proofs.Common.{◌≡◌, ◌∙◌, ap, refl, ℕ, suc, ◌+◌, List, [], ◌++◌, map, arith, zero-add}
use Rattle.std.specs.Prelude.{Option, Some, None, Result, Ok, Err, IfOk}
use Rattle.std.specs.Global.{Vec}
use Rattle.sg_io.specs.Files.{File, BothTell, HasAfter}
use Rattle.sg_circuit.specs.Circuit.{Circuit}
use Rattle.sg_model.specs.Machine.{Violation}
use Rattle.sg_model.specs.Time.{Run}
use Rattle.sg_model.specs.Run.{Finished, last_change, lasts}
use Rattle.sg_stimulus.specs.Stimulus.{Stimulus}
use Rattle.time_checks.specs.Seen.{violation_seen}
use Rattle.time_checks.specs.declared.violations.Violation as code_violation
use Rattle.sim_times.specs.Runs.{Setting, HasStoppedFrom, origin_of, run_for}
use Rattle.sim_times.specs.Times.{count_shown}
use Rattle.sim_times.specs.Watching.{AreTruthful, Call}
use Rattle.sim_times.specs.declared.runs.SimEnd.{SimEnd}
use Rattle.sim_times.specs.declared.runs.SimEnd.TheVariants.{RoundsSpent, WatchFailed, NoMemory}
use Rattle.sim_rounds.specs.Moments.{moment_of, run_up_to}
use Rattle.sim_rounds.specs.Setting.{setting_of}
use Rattle.sim_rounds.specs.Simulated.{first_state}
use Rattle.sim_rounds.specs.Stopping.{HasStopped}
use Rattle.sim_rounds.specs.declared.stops.Until.{Until}
use Rattle.sim_rounds.specs.declared.stops.Until.TheVariants.{Ended, Paused}
use Rattle.wave_out.specs.Files.{KeepsOthers, Leaves}
use Rattle.wave_out.specs.Scopes.{variables_of}
use Rattle.wave_out.specs.Vcd.{dump, dump_text, header, vcd_begun}
use Rattle.wave_out.specs.Writing.{Holds, Writer, text_after}
use Rattle.wave_out.proofs.DumpLaws.{spent_stop, stop_begun, stopped_run}
use Rattle.run_dump.specs.RunEnds.{HasReached, spent_in, stop_in, with_spent}
use Rattle.run_dump.proofs.FileLaws.{FileAs, leaves_own}
use Rattle.run_dump.proofs.RunLaws.{BreaksIn, StandsFor, file_paused, file_unfinished, spent_times, starts}

-- the setting of a run up to a time
abbrev pub setting_up_to : Circuit → Stimulus → (bound until : ℕ) → Setting
setting_up_to circuit stimulus bound until = setting_of circuit (record stimulus { end = until }) bound

-- A run up to a time, told to a watcher.
module _ {W S : Type 0} (stands broken : W → S → List Call → Type 0) (w w' : W) (a b : S) (circuit : Circuit) (stimulus : Stimulus) (bound until taken : ℕ) where
  abbrev pub Stops : Until → Type 0
  Stops run = HasStopped stands broken w w' a b circuit [] (setting_up_to circuit stimulus bound until) (origin_of (setting_up_to circuit stimulus bound until)) until 0 taken run

  -- what it has come to
  spent_reached : (violations : Vec code_violation.Violation) (found : List Violation) (changed : ℕ) (end : Result (Unit {0}) SimEnd) → HasStoppedFrom stands broken w w' a b (setting_up_to circuit stimulus bound until) (origin_of (setting_up_to circuit stimulus bound until)) (suc until) found changed taken end
      → IfOk (with_spent violations (spent_in end)) (λ e. HasReached circuit (run_up_to circuit bound stimulus until) until e.reached)
  spent_reached violations found changed (Ok u) h = tt
  spent_reached violations found changed (Err (RoundsSpent time net)) h = h.0
  spent_reached violations found changed (Err WatchFailed) h = tt
  spent_reached violations found changed (Err NoMemory) h = tt

  pub stop_reached : (run : Until) → Stops run → IfOk (stop_in run) (λ end. HasReached circuit (run_up_to circuit bound stimulus until) until end.reached)
  stop_reached (Paused moment tally) (h, is, fits, _) =
      let f = run_up_to circuit bound stimulus until in (
        h.0.unspent,
        is ∙ (ap (λ last. moment_of circuit [] until f.run last (count_shown (0 + taken))) h.0.last ∙ ap (λ n. moment_of circuit [] until f.run (last_change (first_state circuit).values (lasts f.run.snapshots)) (count_shown n)) (zero-add taken ∙ h.1)),
        fits,
      )
  stop_reached (Ended finished) (_, h, _) = spent_reached finished.tally.violations (map (λ v. violation_seen v) finished.tally.violations.items) finished.tally.last finished.end h

  -- what it found
  spent_violations : (violations : Vec code_violation.Violation) (changed : ℕ) (end : Result (Unit {0}) SimEnd)
      → HasStoppedFrom stands broken w w' a b (setting_up_to circuit stimulus bound until) (origin_of (setting_up_to circuit stimulus bound until)) (suc until) (map (λ v. violation_seen v) violations.items) changed taken end
      → IfOk (with_spent violations (spent_in end)) (λ e. map (λ v. violation_seen v) e.violations.items ≡ (run_up_to circuit bound stimulus until).run.violations)
  spent_violations violations changed (Ok u) h = tt
  spent_violations violations changed (Err (RoundsSpent time net)) h =
      let s = setting_up_to circuit stimulus bound until in h.1.violations ∙ ap (λ (r : Run). r.violations) (spent_times s (origin_of s) (suc until) (time, Some net) h.0)
  spent_violations violations changed (Err WatchFailed) h = tt
  spent_violations violations changed (Err NoMemory) h = tt

  pub stop_violations : (run : Until) → Stops run → IfOk (stop_in run) (λ end. map (λ v. violation_seen v) end.violations.items ≡ (run_up_to circuit bound stimulus until).run.violations)
  stop_violations (Paused moment tally) (h, _, _, _) = h.0.violations
  stop_violations (Ended finished) (_, h, _) = spent_violations finished.tally.violations finished.tally.last finished.end h

-- its text begins with the header
pub begun_parts : (circuit : Circuit) (f : Finished) → vcd_begun circuit f ≡ header circuit ++ dump_text (dump (variables_of circuit) (lasts f.run.snapshots))
begun_parts circuit f = refl

-- A new writer wrote the header of a circuit's dump, and was told of a run up to a time.
module _ {S : Type 0} (files : S → Option (List File)) (name : List ℕ) (circuit : Circuit) (w : Writer) (old : Option (List File)) (a : S) (is : w ≡ record { name = name; circuit = circuit; last = None }) (new : BothTell old (files a) (HasAfter name (header circuit)))
    (stimulus : Stimulus) (bound until taken : ℕ) (w' : Writer) (b : S) where
  file_stopped : (run : Until) → Stops (StandsFor files) (BreaksIn files) w w' a b circuit stimulus bound until taken run → FileAs w'.name (vcd_begun w'.circuit (run_up_to circuit bound stimulus until)) (files b) (stop_in run)
  file_stopped run h = at run h
    where
      s : Setting
      s = setting_up_to circuit stimulus bound until

      begun : Holds w (files a) []
      begun = starts files name circuit w old a is new

      at : (run : Until) → Stops (StandsFor files) (BreaksIn files) w w' a b circuit stimulus bound until taken run → FileAs w'.name (vcd_begun w'.circuit (run_up_to circuit bound stimulus until)) (files b) (stop_in run)
      at (Paused moment tally) (h, _, _, _) =
          file_paused (StandsFor files) (BreaksIn files) w w' a b AreTruthful (text_after w'.circuit) w'.name (vcd_begun w'.circuit (run_for s (suc until))) (files b) (λ made got right. (got.each [] begun right).file) (λ made broke right. broke.each [] begun right) s (origin_of s)
          (spent_stop w'.circuit s (suc until)) (λ n made. stop_begun w'.circuit s n (suc until) made) (λ made. stopped_run w'.circuit s (suc until) made (omega arith)) (map (λ v. violation_seen v) tally.violations.items) tally.last taken h
      at (Ended finished) (_, h, _) =
          file_unfinished (StandsFor files) (BreaksIn files) w w' a b AreTruthful (text_after w'.circuit) w'.name (vcd_begun w'.circuit (run_for s (suc until))) (files b) (λ made got right. (got.each [] begun right).file) (λ made broke right. broke.each [] begun right) s (origin_of s)
          (spent_stop w'.circuit s (suc until)) (λ n made. stop_begun w'.circuit s n (suc until) made) (λ made. stopped_run w'.circuit s (suc until) made (omega arith)) finished.tally.violations (map (λ v. violation_seen v) finished.tally.violations.items) finished.tally.last taken finished.end h

  pub dump_stopped : (run : Until) → w'.name ≡ w.name → w'.circuit ≡ w.circuit → KeepsOthers w.name (files a) (files b) → Stops (StandsFor files) (BreaksIn files) w w' a b circuit stimulus bound until taken run
      → BothTell old (files b) (Leaves name (vcd_begun circuit (run_up_to circuit bound stimulus until)) (stop_in run))
  dump_stopped run same_name same_circuit others h =
      leaves_own (λ c. vcd_begun c (run_up_to circuit bound stimulus until)) name (header circuit) circuit w w' old (files a) (files b) (stop_in run) (ap (λ (x : Writer). x.name) is) (ap (λ (x : Writer). x.circuit) is) new same_name same_circuit others (file_stopped run h)
