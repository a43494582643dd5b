-- What joins the code of the work on the shelf, and of the telling to the sink, to the cases of the top call.
use Rattle.std.specs.Prelude.{ℕ, ◌≡◌, List, [], map, Option, Some, None, Result, Ok, Err, IfOk, string_bytes, take, unwrap_or}
use Rattle.std.specs.Global.{Vec}
use Rattle.std.specs.Borrow.{Bor}
use Rattle.sg_io.specs.Files.{File}
use Rattle.sg_io.specs.Put.{SinkTold}
use Rattle.vl_lex.specs.Seen.{texts}
use Rattle.fit_changes.specs.Lines.{line_seen}
use Rattle.fit_changes.specs.declared.unfit.Unfit as code_unfit
use Rattle.fit_netlist.specs.declared.fitting.Fitted as code_fitted
use Rattle.fit_words.specs.Words.{Asked}
use Rattle.fit_top.specs.Answer.{Answer, IsFittedFor, IsUnfit, IsUntouched, Meeting, read_limit, report_fault_line, no_memory_line, fault_line}
use Rattle.fit_top.specs.Promises.{IsReached, IsRight, OthersStay, PutsReport, made_in}
use Rattle.fit_top.specs.Putting.{PutsTillFault, PutsTillWant, PutsLast}
use Rattle.fit_top.specs.Status.{IsReport}
use Rattle.fit_top.specs.declared.status.Status.{Status}
use Rattle.fit_top.specs.declared.status.Status.TheVariants as status
use Rattle.fit_top.specs.declared.fitting.Attempt.{Attempt}
use Rattle.fit_top.specs.declared.fitting.Attempt.TheVariants as attempt
use Rattle.fit_top.specs.declared.stop.Stop.{Stop}
use Rattle.fit_top.specs.declared.stop.Stop.TheVariants as stop
use Rattle.fit_top.specs.declared.inputs.Input as code_input
use Rattle.fit_top.specs.declared.making.Made as code_made
use Rattle.fit_top.specs.declared.answers.Answer as code_answer
use Rattle.fit_top.specs.declared.answer.Told as code_end

-- ---- files that are read

abbrev pub GivesText : {X : Type 0} → Option (List ℕ) → Result (Option (Vec ℕ)) X → Type 0
GivesText None (Ok None) = Unit {0}
GivesText None (Ok (Some v)) = ⊥
GivesText None (Err e) = Unit {0}
GivesText (Some bytes) (Ok None) = ⊥
GivesText (Some bytes) (Ok (Some v)) = v.items ≡ take read_limit bytes
GivesText (Some bytes) (Err e) = Unit {0}

abbrev pub input_seen : code_input.Input → File
input_seen i = record { name = i.name.now; bytes = i.text.items }

abbrev pub files_seen : Result (Vec code_input.Input) (Bor (List ℕ)) → Result (List File) (List ℕ)
files_seen (Ok v) = Ok (map input_seen v.items)
files_seen (Err name) = Err name.now

abbrev pub GivesFiles : {X : Type 0} → Result (List File) (List ℕ) → Result (Result (Vec code_input.Input) (Bor (List ℕ))) X → Type 0
GivesFiles files result = IfOk result (λ r. files_seen r ≡ files)

-- ---- the netlist

abbrev pub IsFit : Asked → List (List ℕ) → Result code_fitted.Fitted (Vec code_unfit.Unfit) → Type 0
IsFit asked read (Ok f) = IsFittedFor asked read (texts f.texts.items) (map line_seen f.lines.items)
IsFit asked read (Err places) = IsUnfit asked read places.items

-- and what comes of it where files may still be wanted: then it isn't one that stays
abbrev pub IsAttempt : Asked → List (List ℕ) → Attempt → Type 0
IsAttempt asked read (attempt.Fitted f) = IsFit asked read (Ok f)
IsAttempt asked read (attempt.Unfit places) = IsFit asked read (Err places)
IsAttempt asked read (attempt.Wants from name) = IsUntouched asked read → ⊥

-- ---- answers

abbrev pub made_seen : code_made.Made → File
made_seen m = record { name = string_bytes m.name; bytes = m.text.items }

abbrev pub answer_seen : code_answer.Answer → Answer
answer_seen a = record { status = a.status; made = map made_seen a.made.items; report = a.report.items }

-- ---- what is told

-- A text was to be put, with a status: it was; or the sink failed, or found no memory.
pub data Tells (text : List ℕ) (planned : Status) (old new : SinkTold) : Status → Type 0 where
  told : PutsReport planned text old new → Tells text planned old new planned
  fault : (cut : SinkTold) → IsReport planned → PutsTillFault text old cut → PutsLast report_fault_line cut new → Tells text planned old new status.Fault
  want : (cut : SinkTold) → PutsTillWant [] old cut → PutsLast no_memory_line cut new → Tells text planned old new status.NoMemory

-- ---- the work on the shelf

-- a right answer, or no file is another but those that the words make
abbrev pub WorkLeaves : Option Asked → Meeting → Result code_end.Told Stop → List File → List File → Type 0
WorkLeaves asked meeting (Ok end) old new = IsRight asked meeting end.status end.text.items old new
WorkLeaves asked meeting (Err stop.Failed) old new = OthersStay (made_in asked) old new
WorkLeaves asked meeting (Err (stop.Folder name)) old new = new ≡ old
WorkLeaves asked meeting (Err stop.NoMemory) old new = OthersStay (made_in asked) old new

-- the shelf names a file in the last call that failed; where it tells its files, it is one that the words name or that is sought
pub record IsNamed (asked : Option Asked) (held : Option (List File)) (last : Option (List ℕ)) : Type 0 where
  pub name : List ℕ
  pub is_last : last ≡ Some name
  pub among : (files : List File) → held ≡ Some files → IsReached asked name

-- how the end of the work was told, where the shelf names this file in the last call that failed
abbrev pub TellsEnd : Option (List ℕ) → Result code_end.Told Stop → SinkTold → SinkTold → Status → Type 0
TellsEnd named (Ok end) old new how = Tells end.text.items end.status old new how
TellsEnd named (Err stop.Failed) old new how = (how ≡ status.Fault) × PutsLast (fault_line (unwrap_or named [])) old new
TellsEnd named (Err (stop.Folder name)) old new how = (how ≡ status.Fault) × PutsLast (fault_line name.now) old new
TellsEnd named (Err stop.NoMemory) old new how = (how ≡ status.NoMemory) × PutsLast no_memory_line old new
