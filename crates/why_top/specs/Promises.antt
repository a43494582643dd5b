-- What the top call promises: one distinction of cases over all that the shelf and the sink tell before and after it. No file is changed.
use Rattle.std.specs.Prelude.{ℕ, ◌≡◌, Contains, List, [], Option, Some}
use Rattle.sg_io.specs.Faults.{Rises}
use Rattle.sg_io.specs.Files.{File}
use Rattle.sg_io.specs.Put.{SinkTold}
use Rattle.signoff_phases.specs.Putting.{PutsTillFault, PutsTillWant, PutsLast}
use Rattle.signoff_phases.specs.Status.{IsRunEnd}
use Rattle.signoff_phases.specs.Telling.{PutsReport, ShelfTold, fault_line, no_memory_line, report_fault_line}
use Rattle.signoff_phases.specs.declared.status.Status.{Status}
use Rattle.signoff_phases.specs.declared.status.Status.TheVariants as status
use Rattle.why_top.specs.Answer.{IsAnswerTo, told}
use Rattle.why_words.specs.Words.{Asked, names_in}

-- no call of the shelf failed, and where the shelf tells its files the answer is right
pub record HasAnswer (asked : Option Asked) (how : Status) (text : List ℕ) (old new : ShelfTold) : Type 0 where
  pub right : (files : List File) → old.files ≡ Some files → IsAnswerTo asked files (told how text)
  pub faults : new.faults ≡ old.faults

-- a call of the shelf failed, on this file, which the words name
pub record FailsShelf (asked : Option Asked) (old new : ShelfTold) (name : List ℕ) : Type 0 where
  pub rises : Rises old.faults new.faults
  pub last : new.last ≡ Some name
  pub named : Contains (names_in asked) name

-- How the call went, by the status that comes.
pub data Outcome (asked : Option Asked) (shelf shelf' : ShelfTold) (sink sink' : SinkTold) : Status → Type 0 where
  -- an answer, and its report
  answered : (how : Status) (text : List ℕ) → HasAnswer asked how text shelf shelf' → PutsReport how text sink sink' → Outcome asked shelf shelf' sink sink' how
  -- a call of the shelf failed: its line
  shelf_fault : (name : List ℕ) → FailsShelf asked shelf shelf' name → PutsLast (fault_line name) sink sink' → Outcome asked shelf shelf' sink sink' status.Fault
  -- the answer tells causes, and a call of the sink failed: the first bytes of the report, then the line of that
  sink_fault : (how : Status) (text : List ℕ) (cut : SinkTold) → HasAnswer asked how text shelf shelf' → IsRunEnd how
      → PutsTillFault text sink cut → PutsLast report_fault_line cut sink' → Outcome asked shelf shelf' sink sink' status.Fault
  -- there was no memory: its line
  no_memory : shelf'.faults ≡ shelf.faults → PutsLast no_memory_line sink sink' → Outcome asked shelf shelf' sink sink' status.NoMemory
  -- there is an answer, and the sink found no memory for its report: the line of that
  sink_want : (how : Status) (text : List ℕ) (cut : SinkTold) → HasAnswer asked how text shelf shelf'
      → PutsTillWant [] sink cut → PutsLast no_memory_line cut sink' → Outcome asked shelf shelf' sink sink' status.NoMemory
