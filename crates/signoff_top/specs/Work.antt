-- What joins the code of the work on the shelf, and of the telling to the sink, to the cases of the top call.
use Rattle.std.specs.Prelude.{ℕ, ◌≡◌, ◌≤◌, Bool, List, [], ◌∷◌, length, map, Option, Some, None, Result, Ok, Err, if◌then◌else◌}
use Rattle.sg_io.specs.Files.{File, BothTell}
use Rattle.sg_io.specs.Put.{SinkTold}
use Rattle.sg_circuit.specs.Circuit.{Circuit}
use Rattle.sg_model.specs.Machine.{Violation}
use Rattle.sim_rounds.specs.Moments.{Fits, Moment, moment_after}
use Rattle.sim_save.specs.Faults.{most_bytes}
use Rattle.sim_save.specs.declared.kinds.SaveKind.TheVariants as saved_kind
use Rattle.run_words.specs.Words.{Stop}
use Rattle.signoff_top.specs.declared.work.StopDone as code_stopped
use Rattle.wave_out.specs.Files.{IsBegun}
use Rattle.run_report.specs.Report.{report_lines, stopped_lines}
use Rattle.run_report.specs.Spent.{spent_seen}
use Rattle.time_checks.specs.Seen.{violation_seen}
use Rattle.run_dump.specs.RunEnds.{violations_of}
use Rattle.run_dump.specs.declared.run.QuietEnd as code_quiet
use Rattle.sim_times.specs.Times.{count_shown}
use Rattle.signoff_top.specs.Answer.{Answer, FilesAfter, IsAnswer, IsSettleAnswer, begun_dump, refusal_answer, run_of, last_of, case_text, saved_of, status_of_run, stopped_answer, stopped_of}
use Rattle.signoff_top.specs.Phases.{Task, usage}
use Rattle.signoff_phases.specs.Told.{Tells, TellsMade, TellsStop}
use Rattle.signoff_phases.specs.Phases.{refusal_line, save, save_kind}
use Rattle.signoff_top.specs.Promises.{IsRight, LeavesUnfinished}
use Rattle.signoff_phases.specs.Stops.{refusal_seen}
use Rattle.signoff_top.specs.Tasks.{task_seen}
use Rattle.signoff_phases.specs.declared.status.Status.{Status}
use Rattle.signoff_phases.specs.declared.status.Status.TheVariants as status
use Rattle.signoff_phases.specs.declared.stop.Stop as code_stop
use Rattle.signoff_phases.specs.declared.stop.Stop.TheVariants as stop
use Rattle.signoff_top.specs.declared.work.Done as code_done
use Rattle.signoff_top.specs.declared.work.Done.TheVariants as done
use Rattle.signoff_top.specs.declared.work.CaseDone as code_case
use Rattle.signoff_top.specs.declared.bounds.BoundsDone as code_bounds

-- a right answer for the files before, where the shelf tells them
abbrev pub Answers : List (List ℕ) → Answer → Option (List File) → Type 0
Answers ws answer old = (files : List File) → old ≡ Some files → IsAnswer ws files answer

-- the violations that a run found which nobody watched
abbrev pub quiet_violations : code_quiet.QuietEnd → List Violation
quiet_violations end = map (λ v. violation_seen v) end.violations.items

-- it came to what the run of a task is
pub record IsQuietEnd (task : Task) (end : code_quiet.QuietEnd) : Type 0 where
  pub spent : spent_seen end.spent ≡ (run_of task).spent
  pub violations : quiet_violations end ≡ (run_of task).run.violations
  pub evaluations : end.evaluations ≡ count_shown (run_of task).evaluations
  pub last : end.last ≡ last_of task

-- the text that is told of a generated case
abbrev pub case_told : code_case.CaseDone → List ℕ
case_told d = case_text d.task.circuit d.stages d.end.evaluations d.end.last (length d.end.violations.items) (spent_seen d.end.spent)

-- the status of bounds, or of a cycle
abbrev pub settle_status : (cyclic : Bool) → Status
settle_status cyclic = if cyclic then status.Violations else status.Clean

-- what was found of a circuit, as an answer
pub record IsSettleDone (circuit : Circuit) (d : code_bounds.BoundsDone) : Type 0 where
  pub answer : Answer
  pub right : IsSettleAnswer circuit answer
  pub status : settle_status d.cyclic ≡ answer.status
  pub report : d.text.items ≡ answer.report
  pub made : answer.made ≡ []

-- the violations that were found up to a stop
abbrev pub stop_violations : code_stopped.StopDone → List Violation
stop_violations d = map (λ v. violation_seen v) d.violations.items

-- the stop of what was done, where its save has this name
abbrev pub stop_of_done : code_stopped.StopDone → (file : List ℕ) → Stop
stop_of_done d file = record { time = d.time; save = file }

-- what a run came to that was stopped is this moment, and these are its violations
pub record HasStopped (d : code_stopped.StopDone) (file : List ℕ) (m : Moment) : Type 0 where
  pub fits : Fits d.task.circuit m
  pub moment : m ≡ moment_after d.task.circuit d.time (stopped_of (task_seen d.task) (stop_of_done d file))
  pub violations : stop_violations d ≡ (stopped_of (task_seen d.task) (stop_of_done d file)).run.violations

-- it is saved with this text
pub record IsSaved (d : code_stopped.StopDone) (file bytes : List ℕ) : Type 0 where
  pub violations : stop_violations d ≡ (stopped_of (task_seen d.task) (stop_of_done d file)).run.violations
  pub text : bytes ≡ saved_of (task_seen d.task) (stop_of_done d file)
  pub small : length bytes ≤ most_bytes

-- a right answer has the dump, which was made, and the save, or it tells that this is too large
pub record SavesFrom (ws : List (List ℕ)) (d : code_stopped.StopDone) (file : List ℕ) (old mid : Option (List File)) : Type 0 where
  pub right : Answers ws (stopped_answer None (task_seen d.task) (stop_of_done d file)) old
  pub made : BothTell old mid (FilesAfter (begun_dump (task_seen d.task) (stop_of_done d file) ∷ []))

-- the status of what was done, and what is told of it
abbrev pub status_of_done : code_done.Done → Status
status_of_done (done.Run d) = status_of_run (spent_seen d.end.spent) (violations_of d.end)
status_of_done (done.Stop d) = status_of_run None (stop_violations d)
status_of_done (done.Unsaved d) = status.Save
status_of_done (done.Writing d) = status.Clean
status_of_done (done.Bounds d) = settle_status d.cyclic
status_of_done (done.Case d) = status_of_run (spent_seen d.end.spent) (quiet_violations d.end)

abbrev pub text_of_done : code_done.Done → List ℕ
text_of_done (done.Run d) = report_lines d.task.circuit (task_seen d.task).unmatched (violations_of d.end) d.task.input.end (spent_seen d.end.spent)
text_of_done (done.Stop d) = stopped_lines d.task.circuit (task_seen d.task).unmatched (stop_violations d) d.time
text_of_done (done.Unsaved d) = refusal_line usage (save d.save.now 1 (save_kind saved_kind.TooLarge))
text_of_done (done.Writing d) = d.report.items
text_of_done (done.Bounds d) = d.text.items
text_of_done (done.Case d) = case_told d

-- what the work leaves: a right answer, or the files as they were; what a failure leaves is said with the name of its file
abbrev pub WorkLeaves : List (List ℕ) → Result code_done.Done code_stop.Stop → List File → List File → Type 0
WorkLeaves ws (Ok d) old new = IsRight ws (status_of_done d) (text_of_done d) old new
WorkLeaves ws (Err (stop.Refused r)) old new = IsAnswer ws old (refusal_answer (refusal_seen r)) × (new ≡ old)
WorkLeaves ws (Err stop.Failed) old new = Unit {0}
WorkLeaves ws (Err stop.NoMemory) old new = LeavesUnfinished ws old new

-- where a file of delays is asked for, that is what was done; and for want of memory it wasn't begun, or nothing was written to it
abbrev pub LeavesDelays : List ℕ → Result code_done.Done code_stop.Stop → Option (List File) → Option (List File) → Type 0
LeavesDelays out (Ok (done.Run d)) old new = ⊥
LeavesDelays out (Ok (done.Stop d)) old new = ⊥
LeavesDelays out (Ok (done.Unsaved d)) old new = ⊥
LeavesDelays out (Ok (done.Writing d)) old new = Unit {0}
LeavesDelays out (Ok (done.Bounds d)) old new = ⊥
LeavesDelays out (Ok (done.Case d)) old new = ⊥
LeavesDelays out (Err (stop.Refused r)) old new = Unit {0}
LeavesDelays out (Err stop.Failed) old new = Unit {0}
LeavesDelays out (Err stop.NoMemory) old new = BothTell old new (IsBegun out)

-- how it was told what was done: the report of a writing was made before its file
abbrev pub TellsDone : code_done.Done → SinkTold → SinkTold → Status → Type 0
TellsDone (done.Run d) old new how = Tells (text_of_done (done.Run d)) (status_of_done (done.Run d)) old new how
TellsDone (done.Stop d) old new how = Tells (text_of_done (done.Stop d)) (status_of_done (done.Stop d)) old new how
TellsDone (done.Unsaved d) old new how = Tells (text_of_done (done.Unsaved d)) (status_of_done (done.Unsaved d)) old new how
TellsDone (done.Writing d) old new how = TellsMade (text_of_done (done.Writing d)) (status_of_done (done.Writing d)) old new how
TellsDone (done.Bounds d) old new how = Tells (text_of_done (done.Bounds d)) (status_of_done (done.Bounds d)) old new how
TellsDone (done.Case d) old new how = Tells (text_of_done (done.Case d)) (status_of_done (done.Case d)) old new how

-- how the end of the work was told
abbrev pub TellsEnd : Option (List ℕ) → Result code_done.Done code_stop.Stop → SinkTold → SinkTold → Status → Type 0
TellsEnd named (Ok d) old new how = TellsDone d old new how
TellsEnd named (Err s) old new how = TellsStop usage named s old new how
