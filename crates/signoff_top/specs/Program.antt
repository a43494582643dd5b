-- What the program makes of the words that the system gives it.
use Rattle.std.specs.Prelude.{◌≡◌, Result}
use Rattle.std.specs.declared.io.Error.{Error}
use Rattle.sg_io.specs.Put.{SinkTold}
use Rattle.signoff_phases.specs.Given.{Args, HasWords, words_given}
use Rattle.signoff_phases.specs.Telling.{no_memory_line, ShelfTold}
use Rattle.signoff_top.specs.Promises.{Outcome}
use Rattle.signoff_phases.specs.Putting.{PutsLast}
use Rattle.signoff_phases.specs.declared.status.Status.{Status}
use Rattle.signoff_phases.specs.declared.status.Status.TheVariants as status

-- How the program ends, by its status.
pub data Ends (args : Result Args Error) (shelf shelf' : ShelfTold) (sink sink' : SinkTold) : Status → Type 0 where
  -- as the top call ends on the words
  on_words : (how : Status) → HasWords args → Outcome (words_given args) shelf shelf' sink sink' how → Ends args shelf shelf' sink sink' how
  -- there was no memory for the words, or for a copy of them: the shelf isn't called
  no_words : shelf' ≡ shelf → PutsLast no_memory_line sink sink' → Ends args shelf shelf' sink sink' status.NoMemory
