-- What the rest of a run from a moment on leaves in the file of its dump is what the definition's has.
use Rattle.std.proofs.Common.{◌≡◌, ap, refl, ℕ, ◌<◌, List, [], ◌++◌, arith}
use Rattle.std.specs.Prelude.{Option, Some, Result}
use Rattle.std.specs.Global.{Vec}
use Rattle.sg_io.specs.Files.{File, BothTell, HasAfter}
use Rattle.sg_circuit.specs.Circuit.{Circuit}
use Rattle.sg_model.specs.Machine.{Snapshot, Violation}
use Rattle.sg_stimulus.specs.Stimulus.{Stimulus}
use Rattle.time_checks.specs.declared.violations.Violation as code_violation
use Rattle.sim_times.specs.Runs.{Origin, Setting, HasEndedFrom}
use Rattle.sim_times.specs.Times.{Kept}
use Rattle.sim_times.specs.Watching.{Call}
use Rattle.sim_times.specs.declared.runs.SimEnd.{SimEnd}
use Rattle.sim_rounds.specs.Moments.{Moment, run_since, snapshot_of}
use Rattle.sim_rounds.specs.Stopping.{origin_at, setting_since, told_of}
use Rattle.sim_rounds.proofs.ResumedLaws.{begins_after}
use Rattle.wave_out.specs.Files.{KeepsOthers, Leaves}
use Rattle.wave_out.specs.Laws.{CallsGoOn, GoesOnFrom}
use Rattle.wave_out.specs.Vcd.{vcd_rest}
use Rattle.wave_out.specs.Writing.{BeginsRest, HoldsRest, Writer, text_behind}
use Rattle.wave_out.proofs.OnwardLaws.{next_times, spent_rest, whole_rest}
use Rattle.run_dump.specs.RunEnds.{spent_in, with_found}
use Rattle.run_dump.proofs.FileLaws.{leaves_own}
use Rattle.run_dump.proofs.RunLaws.{file_after}

-- what a writer of a rest and its shelf stand for, and how they break
abbrev pub StandsForRest : {S : Type 0} → (S → Option (List File)) → Writer → S → List Call → Type 0
StandsForRest files = λ w s calls. HoldsRest w (files s) calls

abbrev pub BreaksInRest : {S : Type 0} → (S → Option (List File)) → Writer → S → List Call → Type 0
BreaksInRest files = λ w s calls. BeginsRest w (files s) calls

-- a run goes on from a moment before the end
goes_on : (circuit : Circuit) (stimulus : Stimulus) (bound : ℕ) (m : Moment) → m.time < stimulus.end → GoesOnFrom (setting_since circuit stimulus bound m) (origin_at circuit stimulus.end m) (snapshot_of m)
goes_on circuit stimulus bound m before =
    let kept : Kept = record { told = m.nets; latest = λ ss. []; violations = []; last = m.last; stimulus = stimulus } in
    record { origin = (begins_after circuit stimulus.end m kept (omega (arith, before)) refl refl).is; snapshots = refl; told = refl; first = refl; earlier = before }

-- A new writer of a rest was told of the rest of a run.
module _ {S : Type 0} (files : S → Option (List File)) (name : List ℕ) (circuit : Circuit) (stimulus : Stimulus) (bound : ℕ) (m : Moment) (before : m.time < stimulus.end) where
  abbrev rest_text : Circuit → List ℕ
  rest_text c = vcd_rest c stimulus.end (snapshot_of m) (run_since circuit bound stimulus m)

  pub rest_left : (w w' : Writer) (old : Option (List File)) (a b : S) (violations : Vec code_violation.Violation) (found : List Violation) (changed taken : ℕ) (end : Result (Unit {0}) SimEnd) → w ≡ record { name = name; circuit = circuit; last = Some m.time } → BothTell old (files a) (HasAfter name [])
      → HoldsRest w (files a) (told_of m) → w'.name ≡ w.name → w'.circuit ≡ w.circuit → KeepsOthers w.name (files a) (files b)
      → HasEndedFrom (StandsForRest files) (BreaksInRest files) w w' a b (setting_since circuit stimulus bound m) (origin_at circuit stimulus.end m) found changed taken end
      → BothTell old (files b) (Leaves name (rest_text circuit) (with_found violations (spent_in end)))
  rest_left w w' old a b violations found changed taken end is new held same_name same_circuit others h =
      let s : Setting = setting_since circuit stimulus bound m in
      let o : Origin = origin_at circuit stimulus.end m in
      let last : Snapshot = snapshot_of m in
      let g : GoesOnFrom s o last = goes_on circuit stimulus bound m before in
      leaves_own rest_text name [] circuit w w' old (files a) (files b) (with_found violations (spent_in end)) (ap (λ (x : Writer). x.name) is) (ap (λ (x : Writer). x.circuit) is) new same_name same_circuit others
      (file_after (StandsForRest files) (BreaksInRest files) w w' a b (CallsGoOn o last) (λ made. text_behind w'.circuit o.told (o.told ++ made)) w'.name (rest_text w'.circuit) (files b)
      (λ made got right. (got.each o.told held right.truthful right.later).file) (λ made broke right. broke.each o.told held right.truthful right.later) s o
      (λ spent made. spent_rest w'.circuit s o last spent made g) (λ n made. next_times w'.circuit s o last n made g) (λ made. whole_rest w'.circuit s o last made g) violations found changed taken end h)
