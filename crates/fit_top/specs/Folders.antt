-- Folders: what is told of them, and those in memory.
use Rattle.std.specs.Prelude.{ℕ, ◌≡◌, List, Bool, true, false, ◌&&◌, Option, Some, Result, Ok, Err}
use Rattle.std.specs.List.{list_any}
use Rattle.sg_io.specs.Files.{same_name}
use Rattle.sg_io.specs.declared.outside.ShelfError.{ShelfError}
use Rattle.sg_io.specs.declared.outside.ShelfError.TheVariants as shelf

-- whether two names reach one file, where that is told
abbrev pub SaysOne : Option (List ℕ → List ℕ → Bool) → List ℕ → List ℕ → Bool → Type 0
SaysOne meeting one other said = (is_one : List ℕ → List ℕ → Bool) → meeting ≡ Some is_one → said ≡ is_one one other

-- in memory: pairs of names that reach one file, whether each folder is to fail, and how many did
pub record FoldersInMemory : Type 0 where
  pub pairs : List (List ℕ × List ℕ)
  pub fails : Bool
  pub faults : ℕ

abbrev pub is_pair : List ℕ → List ℕ → List ℕ × List ℕ → Bool
is_pair one other pair = same_name pair.0 one && same_name pair.1 other

abbrev pub has_pair : List (List ℕ × List ℕ) → List ℕ → List ℕ → Bool
has_pair pairs one other = list_any (is_pair one other) pairs

-- a folder is made, unless each is to fail
abbrev pub MakesBy : Bool → Result Unit ShelfError → Type 0
MakesBy true (Ok _) = ⊥
MakesBy true (Err shelf.Failed) = Unit {0}
MakesBy true (Err shelf.NoMemory) = ⊥
MakesBy false (Ok _) = Unit {0}
MakesBy false (Err e) = ⊥

abbrev pub MakesListed : FoldersInMemory → Result Unit ShelfError → Type 0
MakesListed folders result = MakesBy folders.fails result
