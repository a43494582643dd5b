-- What calls that make files leave.
use Rattle.std.specs.Prelude.{ℕ, ◌≡◌, ◌≢◌, List, map, Result, Ok, Err}
use Rattle.sg_io.specs.Files.{File, HasAfter, bytes_of}
use Rattle.sg_io.specs.declared.outside.ShelfError.{ShelfError}
use Rattle.fit_top.specs.Promises.{FilesAfter, OthersStay}

-- the file of this name holds the text; after a failure or for want of memory no other file is another
abbrev pub Leaves : {X : Type 0} → List ℕ → List ℕ → Result X ShelfError → List File → List File → Type 0
Leaves name text (Ok _) old new = HasAfter name text old new
Leaves name text (Err _) old new = (q : List ℕ) → q ≢ name → bytes_of q new ≡ bytes_of q old

-- the same of several files
abbrev pub LeavesAll : {X E : Type 0} → List File → Result X E → List File → List File → Type 0
LeavesAll made (Ok _) old new = FilesAfter made old new
LeavesAll made (Err _) old new = OthersStay (map (λ f. f.name) made) old new
