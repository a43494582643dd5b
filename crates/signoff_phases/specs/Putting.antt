-- What putting a text to a sink does, in one call or in several: each cut has its own cause.
use Rattle.std.specs.Prelude.{ℕ, ◌≡◌, List, ◌++◌, take, Result, Ok, Err}
use Rattle.sg_io.specs.Faults.{Rises}
use Rattle.sg_io.specs.Files.{BothTell}
use Rattle.sg_io.specs.Put.{SinkTold}
use Rattle.sg_io.specs.declared.outside.ShelfError.{ShelfError}
use Rattle.sg_io.specs.declared.outside.ShelfError.TheVariants as shelf

-- all of the text was added, and no call was refused
pub record PutsAll (text : List ℕ) (old new : SinkTold) : Type 0 where
  pub contents : BothTell old.contents new.contents (λ held after. after ≡ held ++ text)
  pub faults : new.faults ≡ old.faults
  pub wants : new.wants ≡ old.wants

-- the first bytes of it
abbrev pub PutsFirst : List ℕ → SinkTold → SinkTold → Type 0
PutsFirst text old new = BothTell old.contents new.contents (λ held after. (n : ℕ) × (after ≡ held ++ take n text))

-- the first bytes of it, and then a call failed
pub record PutsTillFault (text : List ℕ) (old new : SinkTold) : Type 0 where
  pub contents : PutsFirst text old new
  pub faults : Rises old.faults new.faults
  pub wants : new.wants ≡ old.wants

-- the first bytes of it, and then a call found no memory
pub record PutsTillWant (text : List ℕ) (old new : SinkTold) : Type 0 where
  pub contents : PutsFirst text old new
  pub faults : new.faults ≡ old.faults
  pub wants : Rises old.wants new.wants

-- by what the last call answered
abbrev pub PutsBy : List ℕ → SinkTold → SinkTold → Result Unit ShelfError → Type 0
PutsBy text old new (Ok _) = PutsAll text old new
PutsBy text old new (Err shelf.Failed) = PutsTillFault text old new
PutsBy text old new (Err shelf.NoMemory) = PutsTillWant text old new

-- a line was put; nothing follows it, whatever the last call answered
pub data PutsLast (text : List ℕ) (old new : SinkTold) : Type 0 where
  whole : PutsAll text old new → PutsLast text old new
  till_fault : PutsTillFault text old new → PutsLast text old new
  till_want : PutsTillWant text old new → PutsLast text old new
