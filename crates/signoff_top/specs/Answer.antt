-- What the program answers: its status, the files that it makes, and the report.
use Rattle.std.specs.Prelude.{ℕ, ◌≡◌, ◌++◌, List, [], ◌∷◌, length, Option, Some, None, Result, Ok, Err, Bool, true, false, nat_lt, if◌then◌else◌, codes, decimal, flat_map}
use Rattle.sg_io.specs.Files.{File, HasAfter}
use Rattle.sg_circuit.specs.Circuit.{Circuit}
use Rattle.sg_model.specs.Machine.{Violation}
use Rattle.sg_model.specs.Run.{Finished, last_change, lasts}
use Rattle.sim_rounds.specs.Setting.{setting_of}
use Rattle.sim_rounds.specs.Simulated.{run_of_circuit}
use Rattle.sim_times.specs.Times.{count_shown}
use Rattle.sim_rounds.specs.Moments.{moment_after, run_since, run_up_to, snapshot_of}
use Rattle.sim_save.specs.Faults.{most_bytes}
use Rattle.sim_save.specs.Lines.{save_text}
use Rattle.sim_save.specs.declared.kinds.SaveKind.TheVariants as saved_kind
use Rattle.run_words.specs.Words.{Asked, Stop, a_run, a_stop, a_rest, a_writing, the_bounds, a_case, asked_of}
use Rattle.settle_bound.specs.declared.hops.Hop.{Hop}
use Rattle.settle_bound.specs.Chains.{IsCycle}
use Rattle.settle_bound.specs.Settling.{AreBounds}
use Rattle.settle_report.specs.Texts.{bounds_text, cycle_text}
use Rattle.wave_out.specs.Texts.{line}
use Rattle.wave_out.specs.Vcd.{vcd_begun, vcd_rest, vcd_text}
use Rattle.run_report.specs.Report.{Unmatched, report_text, spent_line, stopped_lines, unmatched_line}
use Rattle.signoff_phases.specs.Phases.{Annotated, Refusal, DesignOutcome, status_of_refusal, refusal_line, save, save_kind, words}
use Rattle.signoff_top.specs.Phases.{Rest, Task, CaseOutcome, CommandOutcome, RestOutcome, Written, WritingOutcome, usage}
use Rattle.signoff_phases.specs.declared.status.Status.{Status}
use Rattle.signoff_phases.specs.declared.status.Status.TheVariants as status

pub record Answer : Type 0 where
  pub status : Status
  pub made : List File
  pub report : List ℕ

-- a refusal
abbrev pub refusal_answer : Refusal → Answer
refusal_answer r = record { status = status_of_refusal r; made = []; report = refusal_line usage r }

-- the run of a task
abbrev pub run_of : Task → Finished
run_of task = run_of_circuit task.circuit task.rounds task.input

-- the value change dump of a task
abbrev pub dump_of : Task → List ℕ
dump_of task = vcd_text task.circuit task.input.end (run_of task)

-- the status of a run: a time was spent, or there is a violation, or there is none
abbrev pub status_of_run : Option (ℕ × Option ℕ) → List Violation → Status
status_of_run (Some spent) violations = status.Rounds
status_of_run None [] = status.Clean
status_of_run None (v ∷ vs) = status.Violations

abbrev pub answer_of : Result Task Refusal → Answer
answer_of (Ok task) = record {
  status = status_of_run (run_of task).spent (run_of task).run.violations;
  made = record { name = task.vcd; bytes = dump_of task } ∷ [];
  report = report_text task.circuit task.unmatched task.input.end (run_of task);
}
answer_of (Err r) = refusal_answer r

-- A run that is stopped: its times up to the stop.
abbrev pub stopped_of : Task → Stop → Finished
stopped_of task stop = run_up_to task.circuit task.rounds task.input stop.time

-- the dump of these
abbrev pub begun_dump : Task → Stop → File
begun_dump task stop = record { name = task.vcd; bytes = vcd_begun task.circuit (stopped_of task stop) }

-- the text that is saved
abbrev pub saved_of : Task → Stop → List ℕ
saved_of task stop = save_text task.circuit (moment_after task.circuit stop.time (stopped_of task stop))

-- the text is saved; or, where it is too large, that is told in place of the report
abbrev pub saved_answer : (too_large : Bool) → Task → Stop → Answer
saved_answer true task stop = record { status = status.Save; made = begun_dump task stop ∷ []; report = refusal_line usage (save stop.save 1 (save_kind saved_kind.TooLarge)) }
saved_answer false task stop = record {
  status = status_of_run None (stopped_of task stop).run.violations;
  made = begun_dump task stop ∷ record { name = stop.save; bytes = saved_of task stop } ∷ [];
  report = stopped_lines task.circuit task.unmatched (stopped_of task stop).run.violations stop.time;
}

-- a time up to the stop is spent, or none is
abbrev pub stopped_answer : Option (ℕ × Option ℕ) → Task → Stop → Answer
stopped_answer None task stop = saved_answer (nat_lt most_bytes (length (saved_of task stop))) task stop
stopped_answer (Some spent) task stop = record {
  status = status.Rounds;
  made = begun_dump task stop ∷ [];
  report = report_text task.circuit task.unmatched task.input.end (stopped_of task stop);
}

-- a run is stopped where that is before its end; else it is whole
abbrev pub stop_answer : Stop → Result Task Refusal → Answer
stop_answer stop (Ok task) = if nat_lt stop.time task.input.end then stopped_answer (stopped_of task stop).spent task stop else answer_of (Ok task)
stop_answer stop (Err r) = refusal_answer r

-- the rest of a run
abbrev pub rest_of : Rest → Finished
rest_of rest = run_since rest.task.circuit rest.task.rounds rest.task.input rest.moment

-- and of its dump
abbrev pub rest_dump : Rest → List ℕ
rest_dump rest = vcd_rest rest.task.circuit rest.task.input.end (snapshot_of rest.moment) (rest_of rest)

abbrev pub rest_answer : Result Rest Refusal → Answer
rest_answer (Ok rest) = record {
  status = status_of_run (rest_of rest).spent (rest_of rest).run.violations;
  made = record { name = rest.task.vcd; bytes = rest_dump rest } ∷ [];
  report = report_text rest.task.circuit rest.task.unmatched rest.task.input.end (rest_of rest);
}
rest_answer (Err r) = refusal_answer r

-- the last time that changes a net
abbrev pub last_of : Task → ℕ
last_of task = last_change (setting_of task.circuit task.input task.rounds).first.values (lasts (run_of task).run.snapshots)

-- what is told of the run of a generated case: its stages, how many elements were evaluated, the last change, and how many limits were violated
abbrev pub summary_lines : (stages evaluations last violations : ℕ) → List ℕ
summary_lines stages evaluations last violations =
    line (codes "stages " ++ decimal stages)
    ++ line (codes "evaluations " ++ decimal evaluations)
    ++ line (codes "last " ++ decimal last)
    ++ line (codes "violations " ++ decimal violations)

-- or of a time that was spent
abbrev pub case_text : Circuit → (stages evaluations last violations : ℕ) → Option (ℕ × Option ℕ) → List ℕ
case_text circuit stages evaluations last violations None = summary_lines stages evaluations last violations
case_text circuit stages evaluations last violations (Some spent) = spent_line circuit spent.0 spent.1

abbrev pub case_lines : ℕ → Task → List ℕ
case_lines stages task = case_text task.circuit stages (count_shown (run_of task).evaluations) (last_of task) (length (run_of task).run.violations) (run_of task).spent

-- no file is made
abbrev pub case_answer : ℕ → Result Task Refusal → Answer
case_answer stages (Ok task) = record {
  status = status_of_run (run_of task).spent (run_of task).run.violations;
  made = [];
  report = case_lines stages task;
}
case_answer stages (Err r) = refusal_answer r

-- what is told of delays that were written: the entries of the SDF file that were for nothing, and how many they are
abbrev pub written_lines : List Unmatched → List ℕ
written_lines unmatched = flat_map unmatched_line unmatched ++ line (codes "unannotated " ++ decimal (length unmatched))

abbrev pub writing_answer : (out : List ℕ) → Result Written Refusal → Answer
writing_answer out (Ok written) = record { status = status.Clean; made = record { name = out; bytes = written.text } ∷ []; report = written_lines written.unmatched }
writing_answer out (Err r) = refusal_answer r

-- the bounds of a circuit's nets, and a cycle of it, as they are told
abbrev pub bounds_answer : Circuit → List ℕ → Answer
bounds_answer circuit bounds = record { status = status.Clean; made = []; report = bounds_text circuit bounds }

abbrev pub cycle_answer : Circuit → List Hop → Answer
cycle_answer circuit hops = record { status = status.Violations; made = []; report = cycle_text circuit hops }

-- of each circuit there is one or the other; whichever cycle there is may be told
pub data IsSettleAnswer (circuit : Circuit) : Answer → Type 0 where
  bounded : (bounds : List ℕ) → AreBounds circuit bounds → IsSettleAnswer circuit (bounds_answer circuit bounds)
  in_a_cycle : (hops : List Hop) → IsCycle circuit hops → IsSettleAnswer circuit (cycle_answer circuit hops)

abbrev pub IsSettleAnswerOf : Result Annotated Refusal → Answer → Type 0
IsSettleAnswerOf (Ok annotated) answer = IsSettleAnswer annotated.circuit answer
IsSettleAnswerOf (Err r) answer = answer ≡ refusal_answer r

-- the answer is right for what is asked and these files: of a run those of the design and of what drives the inputs, of its rest also the saved moment, of a writing and of bounds those of the design; a generated case has its own texts
abbrev pub IsAnswerFor : Asked → List File → Answer → Type 0
IsAnswerFor (a_run command) files answer = (outcome : Result Task Refusal) × CommandOutcome command files outcome × (answer ≡ answer_of outcome)
IsAnswerFor (a_stop command stop) files answer = (outcome : Result Task Refusal) × CommandOutcome command files outcome × (answer ≡ stop_answer stop outcome)
IsAnswerFor (a_rest command state) files answer = (outcome : Result Rest Refusal) × RestOutcome command state files outcome × (answer ≡ rest_answer outcome)
IsAnswerFor (a_writing writing) files answer = (outcome : Result Written Refusal) × WritingOutcome writing files outcome × (answer ≡ writing_answer writing.out outcome)
IsAnswerFor (the_bounds design) files answer = (outcome : Result Annotated Refusal) × DesignOutcome design files outcome × IsSettleAnswerOf outcome answer
IsAnswerFor (a_case stages) files answer = (outcome : Result Task Refusal) × CaseOutcome stages outcome × (answer ≡ case_answer stages outcome)

abbrev pub IsAnswerTo : Option Asked → List File → Answer → Type 0
IsAnswerTo None files answer = answer ≡ refusal_answer words
IsAnswerTo (Some asked) files answer = IsAnswerFor asked files answer

abbrev pub IsAnswer : List (List ℕ) → List File → Answer → Type 0
IsAnswer ws files answer = IsAnswerTo (asked_of ws) files answer

-- the files that were made, one after another, have their bytes afterwards, and all else stays
abbrev pub FilesAfter : List File → List File → List File → Type 0
FilesAfter [] old new = new ≡ old
FilesAfter (f ∷ []) old new = HasAfter f.name f.bytes old new
FilesAfter (f ∷ g ∷ more) old new = (mid : List File) × HasAfter f.name f.bytes old mid × FilesAfter (g ∷ more) mid new
