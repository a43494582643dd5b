-- The file that a shelf over the real system keeps open.
use Rattle.std.specs.Prelude.{ℕ, ◌≡◌, ◌≢◌, List, take, Option, Some, None, Result, Ok, Err}
use Rattle.std.specs.Io.KnownBytes.{Appends}
use Rattle.sg_io.specs.Faults.{FaultsTold}
use Rattle.sg_io.specs.declared.outside.ShelfError.{ShelfError}
use Rattle.sg_io.specs.declared.outside.ShelfError.TheVariants as shelf

-- a file that is open: the name by which it was made, and what was written to it, where that is known
pub record KeptTold : Type 0 where
  pub name : List ℕ
  pub contents : Option (List ℕ)

-- what is told of such a shelf: its failed calls, and the file that it keeps open
pub record FileShelfTold : Type 0 where
  pub faults : FaultsTold
  pub kept : Option KeptTold

-- a file that was made stays open; a refusal leaves what was open
abbrev pub KeepsCreated : List ℕ → Option KeptTold → Option KeptTold → Result Unit ShelfError → Type 0
KeepsCreated name old None (Ok _) = ⊥
KeepsCreated name old (Some kept) (Ok _) = kept.name ≡ name
KeepsCreated name old new (Err _) = new ≡ old

-- the bytes were written behind what was; after a failure the first of them; for want of memory none
abbrev pub Writes : List ℕ → Option (List ℕ) → Option (List ℕ) → Result Unit ShelfError → Type 0
Writes bytes old new (Ok _) = Appends old new bytes
Writes bytes old new (Err shelf.Failed) = (taken : ℕ) × Appends old new (take taken bytes)
Writes bytes old new (Err shelf.NoMemory) = new ≡ old

-- bytes for the name of the file that is open are written to that one, whatever its name reaches by now; it stays open.
-- Those for another name leave it
abbrev pub AddsToKept : List ℕ → List ℕ → Option KeptTold → Option KeptTold → Result Unit ShelfError → Type 0
AddsToKept name bytes None new result = new ≡ None
AddsToKept name bytes (Some old) None result = ⊥
AddsToKept name bytes (Some old) (Some new) result =
    (new.name ≡ old.name) × (old.name ≡ name → Writes bytes old.contents new.contents result) × (old.name ≢ name → new ≡ old)
