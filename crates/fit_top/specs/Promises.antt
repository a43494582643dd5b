-- What the top call promises: one distinction of cases over all that the shelf, the folders and the sink tell before and after it.
use Rattle.std.specs.Prelude.{ℕ, ◌≡◌, ◌++◌, ◌⊎◌, List, [], ◌∷◌, Option, Some, None}
use Rattle.sg_io.specs.Faults.{Rises}
use Rattle.sg_io.specs.Files.{File, BothTell, HasAfter, bytes_of}
use Rattle.sg_io.specs.Put.{SinkTold}
use Rattle.fit_words.specs.Words.{Asked, inputs_of, made_of}
use Rattle.fit_top.specs.Answer.{Answer, IsAnswerTo, Meeting, fault_line, no_memory_line, report_fault_line}
use Rattle.fit_top.specs.Names.{IsNoneOf, IsOneOf, IsSought}
use Rattle.fit_top.specs.Putting.{PutsAll, PutsTillFault, PutsTillWant, PutsLast}
use Rattle.fit_top.specs.Status.{IsReport}
use Rattle.fit_top.specs.declared.status.Status.{Status}
use Rattle.fit_top.specs.declared.status.Status.TheVariants as status

-- what a shelf tells: its files, where it does; how many calls failed, and the name in the last of them
pub record ShelfTold : Type 0 where
  pub files : Option (List File)
  pub faults : ℕ
  pub last : Option (List ℕ)

-- the files that were made, one after another, have their bytes afterwards, and all else stays
abbrev pub FilesAfter : List File → List File → List File → Type 0
FilesAfter [] old new = new ≡ old
FilesAfter (f ∷ fs) old new = (mid : List File) × HasAfter f.name f.bytes old mid × FilesAfter fs mid new

-- every file but those of some names reads as before
abbrev pub OthersStay : List (List ℕ) → List File → List File → Type 0
OthersStay names old new = (q : List ℕ) → IsNoneOf names q → bytes_of q new ≡ bytes_of q old

-- a right answer for the files before: its status, its report, and the files that it makes
pub record IsRight (asked : Option Asked) (meeting : Meeting) (how : Status) (text : List ℕ) (old new : List File) : Type 0 where
  pub answer : Answer
  pub right : IsAnswerTo asked meeting old answer
  pub status : how ≡ answer.status
  pub report : text ≡ answer.report
  pub files : FilesAfter answer.made old new

-- the files that the words may make, and all that they name
abbrev pub made_in : Option Asked → List (List ℕ)
made_in None = []
made_in (Some asked) = made_of asked

abbrev pub names_in : Option Asked → List (List ℕ)
names_in None = []
names_in (Some asked) = inputs_of asked ++ made_of asked

-- the words name it, or it is sought since one that they name includes it
abbrev pub IsReached : Option Asked → List ℕ → Type 0
IsReached None name = ⊥
IsReached (Some asked) name = IsOneOf (names_in (Some asked)) name ⊎ IsSought asked name

-- the folder that the words name
abbrev pub IsFolderOf : Option Asked → List ℕ → Type 0
IsFolderOf None name = ⊥
IsFolderOf (Some asked) name = name ≡ asked.out

-- no call of the shelf and of the folders failed, and where the shelf tells its files the answer is right
pub record HasAnswer (asked : Option Asked) (meeting : Meeting) (how : Status) (text : List ℕ) (old new : ShelfTold) (calls calls' : ℕ) : Type 0 where
  pub files : BothTell old.files new.files (IsRight asked meeting how text)
  pub faults : new.faults ≡ old.faults
  pub folders : calls' ≡ calls

-- a call of the shelf failed, on this file; where the shelf tells its files, it is one that the words name or that is sought, and none is another but those that they make
pub record FailsShelf (asked : Option Asked) (old new : ShelfTold) (calls calls' : ℕ) (name : List ℕ) : Type 0 where
  pub rises : Rises old.faults new.faults
  pub folders : calls' ≡ calls
  pub told : new.last ≡ Some name
  pub files : BothTell old.files new.files (λ before after. IsReached asked name × OthersStay (made_in asked) before after)

-- the folder couldn't be made, and no file is another
pub record FailsFolder (asked : Option Asked) (old new : ShelfTold) (calls calls' : ℕ) (name : List ℕ) : Type 0 where
  pub folder : IsFolderOf asked name
  pub rises : Rises calls calls'
  pub faults : new.faults ≡ old.faults
  pub files : BothTell old.files new.files (λ before after. after ≡ before)

-- a report was put: all of it; or, but of changes, its first bytes till a call failed
pub data PutsReport (how : Status) (text : List ℕ) (old new : SinkTold) : Type 0 where
  whole : PutsAll text old new → PutsReport how text old new
  till_fault : (IsReport how → ⊥) → PutsTillFault text old new → PutsReport how text old new

-- How the call went, by the status that comes.
pub data Outcome (asked : Option Asked) (meeting : Meeting) (shelf shelf' : ShelfTold) (folders folders' : ℕ) (sink sink' : SinkTold) : Status → Type 0 where
  -- an answer, and its report
  answered : (how : Status) (text : List ℕ) → HasAnswer asked meeting how text shelf shelf' folders folders' → PutsReport how text sink sink' → Outcome asked meeting shelf shelf' folders folders' sink sink' how
  -- a call of the shelf failed: its line
  shelf_fault : (name : List ℕ) → FailsShelf asked shelf shelf' folders folders' name → PutsLast (fault_line name) sink sink' → Outcome asked meeting shelf shelf' folders folders' sink sink' status.Fault
  -- the folder couldn't be made: its line
  folder_fault : (name : List ℕ) → FailsFolder asked shelf shelf' folders folders' name → PutsLast (fault_line name) sink sink' → Outcome asked meeting shelf shelf' folders folders' sink sink' status.Fault
  -- the answer is a report of changes, and a call of the sink failed: the first bytes of the report, then the line of that
  sink_fault : (how : Status) (text : List ℕ) (cut : SinkTold) → HasAnswer asked meeting how text shelf shelf' folders folders' → IsReport how
      → PutsTillFault text sink cut → PutsLast report_fault_line cut sink' → Outcome asked meeting shelf shelf' folders folders' sink sink' status.Fault
  -- there was no memory: its line; no file is another but those that the words make
  no_memory : shelf'.faults ≡ shelf.faults → folders' ≡ folders → BothTell shelf.files shelf'.files (OthersStay (made_in asked)) → PutsLast no_memory_line sink sink' → Outcome asked meeting shelf shelf' folders folders' sink sink' status.NoMemory
  -- there is an answer, and the sink found no memory for its report: the line of that
  sink_want : (how : Status) (text : List ℕ) (cut : SinkTold) → HasAnswer asked meeting how text shelf shelf' folders folders'
      → PutsTillWant [] sink cut → PutsLast no_memory_line cut sink' → Outcome asked meeting shelf shelf' folders folders' sink sink' status.NoMemory
