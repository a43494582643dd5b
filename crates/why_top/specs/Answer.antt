-- What the program answers: its status and the report.
use Rattle.std.specs.Prelude.{ℕ, ◌≡◌, ◌++◌, List, Option, Some, None, Result, Ok, Err, codes, if◌then◌else◌, nat_le, slice_get}
use Rattle.sg_io.specs.Files.{File}
use Rattle.sg_circuit.specs.Circuit.{Circuit}
use Rattle.sg_model.specs.Machine.{Violation}
use Rattle.wave_out.specs.Texts.{line}
use Rattle.run_report.specs.Report.{spent_line}
use Rattle.signoff_phases.specs.Phases.{DesignOutcome, InputOutcome, Refusal, Then, refusal_line, status_of_refusal, words}
use Rattle.signoff_phases.specs.declared.status.Status.{Status}
use Rattle.signoff_phases.specs.declared.status.Status.TheVariants as status
use Rattle.why_text.specs.Finding.{net_called, violation_called}
use Rattle.why_text.specs.Parting.{IsToldViolation}
use Rattle.why_text.specs.Told.{IsTold}
use Rattle.why_words.specs.Words.{Asked, Question, a_net, a_violation}
use Rattle.why_top.specs.Runs.{IsRun, Run, Task}

pub record Answer : Type 0 where
  pub status : Status
  pub report : List ℕ

abbrev pub told : Status → List ℕ → Answer
told how text = record { status = how; report = text }

-- ---- lines

-- the program's usage
abbrev pub usage : List ℕ
usage = codes "usage: why NETLIST.. (--stim F | --wave F [--scope PATH]) (--net NAME --at T | --violation LINE) [--sdf F] [--top NAME] [--corner min|typ|max] [--rounds N]"

abbrev pub no_net_line : List ℕ → List ℕ
no_net_line name = line (codes "no net " ++ name)

abbrev pub no_violation_line : List ℕ → List ℕ
no_violation_line text = line (codes "no violation " ++ text)

-- ---- the answer to a question about a run

-- a time was spent
abbrev pub spent_answer : Circuit → ℕ × Option ℕ → Answer
spent_answer c spent = told status.Rounds (spent_line c spent.0 spent.1)

-- if that was at this time or before
abbrev pub spent_by : ℕ → Option (ℕ × Option ℕ) → Option (ℕ × Option ℕ)
spent_by time None = None
spent_by time (Some spent) = if nat_le spent.0 time then Some spent else None

-- the chain of causes of the last change of a net up to a time
pub record TellsChain (c : Circuit) (run : Run) (net time : ℕ) (answer : Answer) : Type 0 where
  pub events : List ℕ
  pub text : List ℕ
  pub chain : IsTold c run.waveform run.violations net time events text
  pub is : answer ≡ told status.Clean text

-- unless a time up to then was spent
abbrev pub IsChainAnswer : Circuit → Run → (net time : ℕ) → Option (ℕ × Option ℕ) → Answer → Type 0
IsChainAnswer c run net time None answer = TellsChain c run net time answer
IsChainAnswer c run net time (Some spent) answer = answer ≡ spent_answer c spent

pub record IsChainAnswerIn (task : Task) (rounds : ℕ) (net time : ℕ) (answer : Answer) : Type 0 where
  pub run : Run
  pub is_run : IsRun task rounds run
  pub right : IsChainAnswer task.circuit run net time (spent_by time run.spent) answer

-- of the net of a name, if there is one
abbrev pub IsNetAnswer : Task → (rounds : ℕ) → (name : List ℕ) → (time : ℕ) → Option ℕ → Answer → Type 0
IsNetAnswer task rounds name time None answer = answer ≡ told status.Usage (no_net_line name)
IsNetAnswer task rounds name time (Some net) answer = IsChainAnswerIn task rounds net time answer

-- where the violation of a place came from
pub record TellsViolation (c : Circuit) (run : Run) (place : ℕ) (answer : Answer) : Type 0 where
  pub violation : Violation
  pub at : slice_get run.violations place ≡ Some violation
  pub text : List ℕ
  pub parts : IsToldViolation c run.waveform run.violations violation text
  pub is : answer ≡ told status.Clean text

-- there is no such violation; or none up to the time that was spent
abbrev pub unfound_answer : Circuit → List ℕ → Option (ℕ × Option ℕ) → Answer
unfound_answer c text None = told status.Usage (no_violation_line text)
unfound_answer c text (Some spent) = spent_answer c spent

abbrev pub IsPartsAnswer : Circuit → Run → List ℕ → Option ℕ → Answer → Type 0
IsPartsAnswer c run text None answer = answer ≡ unfound_answer c text run.spent
IsPartsAnswer c run text (Some place) answer = TellsViolation c run place answer

-- of the first violation whose line of the report is a text
pub record IsViolationAnswer (task : Task) (rounds : ℕ) (text : List ℕ) (answer : Answer) : Type 0 where
  pub run : Run
  pub is_run : IsRun task rounds run
  pub right : IsPartsAnswer task.circuit run text (violation_called task.circuit run.violations text) answer

abbrev pub IsAnswerIn : Task → (rounds : ℕ) → Question → Answer → Type 0
IsAnswerIn task rounds (a_net name time) answer = IsNetAnswer task rounds name time (net_called task.circuit name) answer
IsAnswerIn task rounds (a_violation text) answer = IsViolationAnswer task rounds text answer

-- ---- the answer to what is asked

abbrev pub refusal_answer : Refusal → Answer
refusal_answer r = told (status_of_refusal r) (refusal_line usage r)

-- all that is read before the run, as for a run of `signoff`
abbrev pub TaskOutcome : Asked → List File → Result Task Refusal → Type 0
TaskOutcome asked files =
    Then (DesignOutcome asked.design files) (λ annotated.
    Then (InputOutcome asked.input files annotated.circuit) (λ input outcome.
    outcome ≡ Ok (record { circuit = annotated.circuit; input = input })))

abbrev pub IsAnswerBy : Asked → Result Task Refusal → Answer → Type 0
IsAnswerBy asked (Ok task) answer = IsAnswerIn task asked.rounds asked.question answer
IsAnswerBy asked (Err r) answer = answer ≡ refusal_answer r

-- over the files that are held
pub record IsAnswerFor (asked : Asked) (files : List File) (answer : Answer) : Type 0 where
  pub outcome : Result Task Refusal
  pub read : TaskOutcome asked files outcome
  pub right : IsAnswerBy asked outcome answer

-- or the words are refused
abbrev pub IsAnswerTo : Option Asked → List File → Answer → Type 0
IsAnswerTo None files answer = answer ≡ refusal_answer words
IsAnswerTo (Some asked) files answer = IsAnswerFor asked files answer
