-- How a text is told to a sink, with the status that was planned for it, and how it is told why work ended before its report.
use Rattle.std.specs.Prelude.{ℕ, ◌≡◌, List, [], Option, unwrap_or}
use Rattle.sg_io.specs.Put.{SinkTold}
use Rattle.signoff_phases.specs.Telling.{fault_line, report_fault_line, no_memory_line, PutsReport}
use Rattle.signoff_phases.specs.Phases.{refusal_line, status_of_refusal}
use Rattle.signoff_phases.specs.Putting.{PutsTillFault, PutsTillWant, PutsLast}
use Rattle.signoff_phases.specs.Status.{IsRunEnd}
use Rattle.signoff_phases.specs.Stops.{refusal_seen}
use Rattle.signoff_phases.specs.declared.status.Status.{Status}
use Rattle.signoff_phases.specs.declared.status.Status.TheVariants as status
use Rattle.signoff_phases.specs.declared.stop.Stop as code_stop
use Rattle.signoff_phases.specs.declared.stop.Stop.TheVariants as stop

-- A text that there was memory for was to be put, with a status: it was; or the sink failed, or found no memory.
pub data TellsMade (text : List ℕ) (planned : Status) (old new : SinkTold) : Status → Type 0 where
  told : PutsReport planned text old new → TellsMade text planned old new planned
  fault : (cut : SinkTold) → IsRunEnd planned → PutsTillFault text old cut → PutsLast report_fault_line cut new → TellsMade text planned old new status.Fault
  want : (cut : SinkTold) → PutsTillWant [] old cut → PutsLast no_memory_line cut new → TellsMade text planned old new status.NoMemory

-- the same of any text; or there was no memory for it
pub data Tells (text : List ℕ) (planned : Status) (old new : SinkTold) : Status → Type 0 where
  made : (how : Status) → TellsMade text planned old new how → Tells text planned old new how
  no_memory : PutsLast no_memory_line old new → Tells text planned old new status.NoMemory

-- how it was told why the work ended before its report, where the shelf names this file, by a program of this usage
abbrev pub TellsStop : (usage : List ℕ) → Option (List ℕ) → code_stop.Stop → SinkTold → SinkTold → Status → Type 0
TellsStop usage named (stop.Refused r) old new how = Tells (refusal_line usage (refusal_seen r)) (status_of_refusal (refusal_seen r)) old new how
TellsStop usage named stop.Failed old new how = (how ≡ status.Fault) × PutsLast (fault_line (unwrap_or named [])) old new
TellsStop usage named stop.NoMemory old new how = (how ≡ status.NoMemory) × PutsLast no_memory_line old new
