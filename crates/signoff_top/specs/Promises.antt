-- What the top call promises: one distinction of cases over all that the shelf and the sink tell before and after it,
-- and words for what follows from it.
use Rattle.std.specs.Prelude.{ℕ, ◌≡◌, ◌≢◌, ◌<◌, ◌⊎◌, ◌++◌, All, List, [], ◌∷◌, Option, Some, None, Ok, Contains}
use Rattle.sg_io.specs.Faults.{Rises}
use Rattle.sg_io.specs.Files.{File, BothTell, HasAfter, bytes_of}
use Rattle.sg_io.specs.Put.{SinkTold}
use Rattle.sg_circuit.specs.Circuit.{Circuit}
use Rattle.sg_model.specs.Machine.{Violation}
use Rattle.signoff_top.specs.Answer.{Answer, IsAnswer, FilesAfter, dump_of, rest_answer, rest_dump, rest_of, run_of, saved_of, stop_answer, stopped_of}
use Rattle.signoff_phases.specs.Telling.{fault_line, no_memory_line, report_fault_line, PutsReport, ShelfTold}
use Rattle.run_words.specs.Words.{Asked, Command, Design, Stop, Writing, a_rest, a_writing, asked_of, command_of, design_of, file_of, names_in}
use Rattle.signoff_phases.specs.Phases.{Annotated, CircuitOutcome, DesignOutcome, FilesOutcome}
use Rattle.signoff_top.specs.Phases.{Rest, Task, CommandOutcome, usage_line}
use Rattle.signoff_phases.specs.Putting.{PutsTillFault, PutsTillWant, PutsLast}
use Rattle.wave_out.specs.Files.{IsBegun, LeavesPrefix}
use Rattle.signoff_phases.specs.Status.{IsDecided, IsRunEnd}
use Rattle.signoff_phases.specs.declared.status.Status.{Status}
use Rattle.signoff_phases.specs.declared.status.Status.TheVariants as status

-- a right answer for the files before: its status, its report, and the file that it makes
pub record IsRight (ws : List (List ℕ)) (how : Status) (text : List ℕ) (old new : List File) : Type 0 where
  pub answer : Answer
  pub right : IsAnswer ws old answer
  pub status : how ≡ answer.status
  pub report : text ≡ answer.report
  pub files : FilesAfter answer.made old new

-- the words alone say whether the status is that of refused words, whose report is the usage line
abbrev pub FitsWords : Option Asked → Status → List ℕ → Type 0
FitsWords None how text = (how ≡ status.Usage) × (text ≡ usage_line)
FitsWords (Some asked) how text = how ≢ status.Usage

-- the work on the shelf came to an answer: no call failed, and where the shelf tells its files the answer is right
pub record HasAnswer (ws : List (List ℕ)) (how : Status) (text : List ℕ) (old new : ShelfTold) : Type 0 where
  pub decided : IsDecided how
  pub words : FitsWords (asked_of ws) how text
  pub faults : new.faults ≡ old.faults
  pub files : BothTell old.files new.files (IsRight ws how text)

-- A file in a call on which the work may fail, and what is left then: one of the netlist's, where a design is asked of and the files
-- before it were read; the SDF file, where the netlist was accepted; that of what drives the inputs, where the design was; that of a
-- saved moment, where the run was; one that a right answer makes, where those before it were made.
pub data FaultAt (ws : List (List ℕ)) (old new : List File) : List ℕ → Type 0 where
  at_netlist : (asked : Asked) (d : Design) (before : List (List ℕ)) (name : List ℕ) (after texts : List (List ℕ)) → asked_of ws ≡ Some asked → design_of asked ≡ Some d → d.netlists ≡ before ++ name ∷ after
      → FilesOutcome before old (Ok texts) → new ≡ old → FaultAt ws old new name
  at_sdf : (asked : Asked) (d : Design) (name : List ℕ) (circuit : Circuit) → asked_of ws ≡ Some asked → design_of asked ≡ Some d → d.sdf ≡ Some name → CircuitOutcome d old (Ok circuit) → new ≡ old → FaultAt ws old new name
  at_stimulus : (asked : Asked) (c : Command) (annotated : Annotated) → asked_of ws ≡ Some asked → command_of asked ≡ Some c → DesignOutcome c.design old (Ok annotated) → new ≡ old → FaultAt ws old new (file_of c.input)
  at_state : (c : Command) (state : List ℕ) (task : Task) → asked_of ws ≡ Some (a_rest c state) → CommandOutcome c old (Ok task) → new ≡ old → FaultAt ws old new state
  at_made : (answer : Answer) (before : List File) (made : File) (after : List File) (mid : List File) → IsAnswer ws old answer → answer.made ≡ before ++ made ∷ after → FilesAfter before old mid
      → LeavesPrefix made.name made.bytes mid new → FaultAt ws old new made.name

-- the shelf names the file of the last call that failed: one of the words, to which the work had come
pub record NamesFaultAt (ws : List (List ℕ)) (old new : Option (List File)) (last : Option (List ℕ)) : Type 0 where
  pub name : List ℕ
  pub told : last ≡ Some name
  pub among : Contains (names_in (asked_of ws)) name
  pub place : BothTell old new (λ before after. FaultAt ws before after name)

-- of the files that a right answer makes, the first ones were made, and the next is as before, or holds the first bytes of what it is to hold; every other file stays
abbrev pub KeepsBut : List File → List File → List File → Type 0
KeepsBut [] old new = new ≡ old
KeepsBut (f ∷ []) old new = LeavesPrefix f.name f.bytes old new
KeepsBut (f ∷ g ∷ more) old new = LeavesPrefix f.name f.bytes old new ⊎ ((mid : List File) × HasAfter f.name f.bytes old mid × KeepsBut (g ∷ more) mid new)

-- all files are as before, or those which a right answer makes were begun
abbrev pub LeavesUnfinished : List (List ℕ) → List File → List File → Type 0
LeavesUnfinished ws old new = (new ≡ old) ⊎ ((answer : Answer) × IsAnswer ws old answer × KeepsBut answer.made old new)

-- How the call went, by the status that comes.
pub data Outcome (ws : List (List ℕ)) (shelf shelf' : ShelfTold) (sink sink' : SinkTold) : Status → Type 0 where
  -- an answer, and its report
  answered : (how : Status) (text : List ℕ) → HasAnswer ws how text shelf shelf' → PutsReport how text sink sink' → Outcome ws shelf shelf' sink sink' how
  -- a call of the shelf failed: its line
  shelf_fault : Rises shelf.faults shelf'.faults → (f : NamesFaultAt ws shelf.files shelf'.files shelf'.last) → PutsLast (fault_line f.name) sink sink'
      → Outcome ws shelf shelf' sink sink' status.Fault
  -- the answer is the end of a run, and a call of the sink failed: the first bytes of the report, then the line of that
  sink_fault : (how : Status) (text : List ℕ) (cut : SinkTold) → HasAnswer ws how text shelf shelf' → IsRunEnd how
      → PutsTillFault text sink cut → PutsLast report_fault_line cut sink' → Outcome ws shelf shelf' sink sink' status.Fault
  -- there was no memory, for the work or for the report's text: its line; a file of delays wasn't begun, or nothing was written to it
  no_memory : shelf'.faults ≡ shelf.faults → BothTell shelf.files shelf'.files (LeavesUnfinished ws)
      → ((w : Writing) → asked_of ws ≡ Some (a_writing w) → BothTell shelf.files shelf'.files (IsBegun w.out)) → PutsLast no_memory_line sink sink'
      → Outcome ws shelf shelf' sink sink' status.NoMemory
  -- there is an answer, and the sink found no memory for its report: the line of that
  sink_want : (how : Status) (text : List ℕ) (cut : SinkTold) → HasAnswer ws how text shelf shelf'
      → PutsTillWant [] sink cut → PutsLast no_memory_line cut sink' → Outcome ws shelf shelf' sink sink' status.NoMemory

-- the status, the files and the bytes put are exactly those of a right answer
pub record IsExact (ws : List (List ℕ)) (how : Status) (files : List File) (held : List ℕ) (new : Option (List File)) (contents : Option (List ℕ)) : Type 0 where
  pub answer : Answer
  pub right : IsAnswer ws files answer
  pub status : how ≡ answer.status
  pub after : List File
  pub told : new ≡ Some after
  pub made : FilesAfter answer.made files after
  pub report : contents ≡ Some (held ++ answer.report)

-- the status is that of the answer, or a fault, or want of memory
abbrev pub IsStatusOf : Answer → Status → Type 0
IsStatusOf answer how = (how ≡ answer.status) ⊎ ((how ≡ status.Fault) ⊎ (how ≡ status.NoMemory))

-- whatever right answer there is
abbrev pub KeepsByAnswer : List (List ℕ) → List File → List File → Type 0
KeepsByAnswer ws old new = (answer : Answer) → IsAnswer ws old answer → KeepsBut answer.made old new

-- by the words alone: every file stays but those which they name to be made; where they name none all do
abbrev pub KeepsByWords : List (List ℕ) → List File → List File → Type 0
KeepsByWords [] old new = new ≡ old
KeepsByWords (made ∷ more) old new = (q : List ℕ) → All (λ m. q ≢ m) (made ∷ more) → bytes_of q new ≡ bytes_of q old

-- status 2 comes exactly where the words are refused, unless there was no memory
abbrev pub IsUsage : Option Asked → Status → Type 0
IsUsage None how = (how ≡ status.Usage) ⊎ (how ≡ status.NoMemory)
IsUsage (Some asked) how = how ≢ status.Usage

-- A run that goes on from the save of an earlier call: over other files, whose words stopped a run of the same circuit under the same stimulus, with the same bound, before its end; it came to its stop, and made a dump and a save.
pub record GoesOnFrom (files : List File) (c : Command) (state : List ℕ) (task : Task) (dump : File) : Type 0 where
  pub earlier : List File
  pub command : Command
  pub stop : Stop
  pub first : Task
  pub accepted : CommandOutcome command earlier (Ok first)
  pub circuit : first.circuit ≡ task.circuit
  pub input : first.input ≡ task.input
  pub rounds : first.rounds ≡ task.rounds
  pub before : stop.time < task.input.end
  pub made : List File
  pub answer : (stop_answer stop (Ok first)).made ≡ dump ∷ made
  pub save : bytes_of state files ≡ Some (saved_of first stop)
  pub was_saved : made ≢ []

-- the dump of that call and the one that is made now are the dump of the whole run, and its violations those of that call and those that are found now
pub record MakesWhole (task : Task) (dump : File) (earlier : List Violation) (answer : Answer) : Type 0 where
  pub rest : Rest
  pub answered : answer ≡ rest_answer (Ok rest)
  pub dumps : dump.bytes ++ rest_dump rest ≡ dump_of task
  pub violations : earlier ++ (rest_of rest).run.violations ≡ (run_of task).run.violations

-- where the whole run isn't spent
abbrev pub ResumesWhole : List (List ℕ) → List File → Type 0
ResumesWhole ws files = (c : Command) (state : List ℕ) (task : Task) (dump : File) → asked_of ws ≡ Some (a_rest c state) → CommandOutcome c files (Ok task) → (run_of task).spent ≡ None
    → (from : GoesOnFrom files c state task dump) → (answer : Answer) → IsAnswer ws files answer → MakesWhole task dump (stopped_of from.first from.stop).run.violations answer
