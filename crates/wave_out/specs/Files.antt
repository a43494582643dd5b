-- What calls on a shelf leave in the file of a name, and in the others.
use Rattle.std.specs.Prelude.{ℕ, ◌≡◌, ◌≢◌, ◌⊎◌, List, [], Option, Some, None, Result, Ok, Err, take, refl}
use Rattle.std.proofs.Common.{◌∙◌}
use Rattle.sg_io.specs.Files.{File, HasAfter, bytes_of, BothTell}
use Rattle.sg_io.specs.declared.outside.ShelfError.{ShelfError}
use Rattle.sg_io.specs.declared.outside.ShelfError.TheVariants as shelf

-- every file but that of this name reads as before
abbrev pub OthersStay : List ℕ → List File → List File → Type 0
OthersStay name old new = (q : List ℕ) → q ≢ name → bytes_of q new ≡ bytes_of q old

abbrev pub KeepsOthers : List ℕ → Option (List File) → Option (List File) → Type 0
KeepsOthers name old new = BothTell old new (OthersStay name)

-- where the shelf tells, the file of this name holds the text, or its first bytes
abbrev pub FileHolds : List ℕ → List ℕ → Option (List File) → Type 0
FileHolds name text told = (files : List File) → told ≡ Some files → bytes_of name files ≡ Some text

abbrev pub FileBegins : List ℕ → List ℕ → Option (List File) → Type 0
FileBegins name text told = (files : List File) → told ≡ Some files → (n : ℕ) × (bytes_of name files ≡ Some (take n text))

-- the file of this name is as before, or it holds the first bytes of a text; every other file stays
pub record LeavesPrefix (name text : List ℕ) (old new : List File) : Type 0 where
  pub this : (bytes_of name new ≡ bytes_of name old) ⊎ ((n : ℕ) × (bytes_of name new ≡ Some (take n text)))
  pub others : OthersStay name old new

-- the file of this name holds the text, or after a failure or for want of memory its first bytes
abbrev pub Leaves : {X : Type 0} → List ℕ → List ℕ → Result X ShelfError → List File → List File → Type 0
Leaves name text (Ok _) old new = HasAfter name text old new
Leaves name text (Err _) old new = LeavesPrefix name text old new

-- nothing happened, or the file of this name was made, and is empty
abbrev pub IsBegun : List ℕ → List File → List File → Type 0
IsBegun name old new = (new ≡ old) ⊎ HasAfter name [] old new

-- what want of memory may leave
abbrev pub LeavesWanting : {X : Type 0} → List ℕ → Result X ShelfError → List File → List File → Type 0
LeavesWanting name (Ok _) old new = Unit {0}
LeavesWanting name (Err shelf.Failed) old new = Unit {0}
LeavesWanting name (Err shelf.NoMemory) old new = IsBegun name old new

-- the other files stay where nothing happens, and through several calls
pub others_same : (name : List ℕ) (told : Option (List File)) → KeepsOthers name told told
others_same name None = tt
others_same name (Some files) = λ q other. refl

pub others_then : (name : List ℕ) (a b c : Option (List File)) → KeepsOthers name a b → KeepsOthers name b c → KeepsOthers name a c
others_then name (Some x) (Some y) (Some z) h k = λ q other. k q other ∙ h q other
others_then name None None None h k = tt
others_then name None None (Some z) h k = k
others_then name (Some x) (Some y) None h k = k
others_then name None (Some y) c h k = absurd h
others_then name (Some x) None c h k = absurd h
