-- The code's values as the definitions see them, and how its calls end.
use Rattle.std.specs.Prelude.{ℕ, ◌≡◌, ◌<◌, ◌≤◌, ◌^◌, All, Contains, List, Option, Some, Result, Ok, Err, length, map}
use Rattle.std.specs.List.{AllPairs}
use Rattle.sg_io.specs.Files.{File}
use Rattle.sg_io.specs.Put.{SinkTold}
use Rattle.sg_circuit.specs.Circuit.{Circuit}
use Rattle.sg_stimulus.specs.Seen.{stimulus_seen}
use Rattle.time_checks.specs.Seen.{violation_seen}
use Rattle.signoff_phases.specs.Stops.{refusal_seen}
use Rattle.signoff_phases.specs.Told.{TellsMade, TellsStop}
use Rattle.signoff_phases.specs.declared.status.Status.{Status}
use Rattle.signoff_phases.specs.declared.stop.Stop as code_stop
use Rattle.signoff_phases.specs.declared.stop.Stop.TheVariants as stop
use Rattle.why_causes.specs.Waveform.{Waveform}
use Rattle.why_history.specs.Bounds.{IsBounded}
use Rattle.why_history.specs.Ends.{found_in}
use Rattle.why_words.specs.Words.{Asked}
use Rattle.why_words.specs.declared.questions.Question as code_question
use Rattle.why_words.specs.declared.words.Asked as code_asked
use Rattle.why_words.specs.declared.questions.Question.TheVariants as question
use Rattle.why_top.specs.Answer.{Answer, IsAnswerTo, refusal_answer, usage}
use Rattle.why_top.specs.Runs.{IsRun, Run, Task}
use Rattle.why_top.specs.declared.answers.Answer as code_answer
use Rattle.why_history.specs.declared.watched.Watched as code_run
use Rattle.why_top.specs.declared.runs.Task as code_task

abbrev pub task_seen : code_task.Task → Task
task_seen t = record { circuit = t.circuit; input = stimulus_seen t.input }

abbrev pub answer_seen : code_answer.Answer → Answer
answer_seen a = record { status = a.status; report = a.report.items }

abbrev pub waveform_of : code_run.Watched → Waveform
waveform_of r = record { first = r.first.items; events = r.events.items }

abbrev pub run_seen : code_run.Watched → Run
run_seen r = record { waveform = waveform_of r; violations = map (λ v. violation_seen v) r.violations.items; spent = found_in r.spent }

-- a run whose events are those of a circuit's nets, in order
pub record IsInOrder (width : ℕ) (w : Waveform) : Type 0 where
  pub values : length w.first ≡ width
  pub few : length w.first < 2 ^ 32
  pub nets : All (λ e. e.net < length w.first) w.events
  pub times : All (λ e. e.time < 2 ^ 60) w.events
  pub rise : AllPairs (λ d e. d.time ≤ e.time) w.events

-- the run of a task
pub record IsRunOf (task : Task) (rounds : ℕ) (r : code_run.Watched) : Type 0 where
  pub run : IsRun task rounds (run_seen r)
  pub order : IsInOrder (length task.circuit.nets) (waveform_of r)
  pub bounded : All (λ v. IsBounded task.circuit v) r.violations.items

-- the time of a question has a next one
abbrev pub IsSoon : code_question.Question → Type 0
IsSoon (question.Net name time) = time < 2 ^ 63
IsSoon (question.Violation line) = Unit {0}

-- what the work came to, over the files that are held
abbrev pub Gives : Option Asked → List File → Result code_answer.Answer code_stop.Stop → Type 0
Gives asked files (Ok a) = IsAnswerTo asked files (answer_seen a)
Gives asked files (Err (stop.Refused r)) = IsAnswerTo asked files (refusal_answer (refusal_seen r))
Gives asked files (Err stop.Failed) = Unit {0}
Gives asked files (Err stop.NoMemory) = Unit {0}

-- where a call of the shelf failed, it was on one of these files
pub record FailsAmong (names : List (List ℕ)) (last : Option (List ℕ)) : Type 0 where
  pub name : List ℕ
  pub told : last ≡ Some name
  pub among : Contains names name

-- how the end of the work was told, where the shelf names this file in the last call that failed
abbrev pub TellsEnd : Option (List ℕ) → Result code_answer.Answer code_stop.Stop → SinkTold → SinkTold → Status → Type 0
TellsEnd named (Ok a) old new how = TellsMade a.report.items a.status old new how
TellsEnd named (Err s) old new how = TellsStop usage named s old new how

-- a design has a netlist, a time more than no round, and the time of a question a next one
pub record IsReady (a : code_asked.Asked) : Type 0 where
  pub netlists : 0 < length a.design.netlists.items
  pub rounds : 0 < a.rounds
  pub soon : IsSoon a.question
