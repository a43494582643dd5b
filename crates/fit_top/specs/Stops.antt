-- How calls end that may stop the work.
use Rattle.std.specs.Prelude.{ℕ, ◌≡◌, List, Option, Some, Result, Ok, Err}
use Rattle.sg_io.specs.declared.outside.ShelfError.{ShelfError}
use Rattle.sg_io.specs.declared.outside.ShelfError.TheVariants as shelf
use Rattle.fit_top.specs.Names.{IsOneOf}
use Rattle.fit_top.specs.declared.stop.Stop.{Stop}
use Rattle.fit_top.specs.declared.stop.Stop.TheVariants as stop

abbrev pub stop_of : ShelfError → Stop
stop_of shelf.Failed = stop.Failed
stop_of shelf.NoMemory = stop.NoMemory

-- as calls of the shelf end: a folder is none of its calls
abbrev pub end_of : {X : Type 0} → Result X Stop → Result Unit ShelfError
end_of (Ok x) = Ok tt
end_of (Err stop.Failed) = Err shelf.Failed
end_of (Err (stop.Folder name)) = Ok tt
end_of (Err stop.NoMemory) = Err shelf.NoMemory

-- as calls of the folders end
abbrev pub folder_end : {X : Type 0} → Result X Stop → Result Unit ShelfError
folder_end (Ok x) = Ok tt
folder_end (Err stop.Failed) = Ok tt
folder_end (Err (stop.Folder name)) = Err shelf.Failed
folder_end (Err stop.NoMemory) = Err shelf.NoMemory

-- no folder was asked for
abbrev pub NeverFolder : {X : Type 0} → Result X Stop → Type 0
NeverFolder (Ok x) = Unit {0}
NeverFolder (Err stop.Failed) = Unit {0}
NeverFolder (Err (stop.Folder name)) = ⊥
NeverFolder (Err stop.NoMemory) = Unit {0}

-- the shelf wasn't called, or none of its calls failed
abbrev pub NeverFails : {X : Type 0} → Result X Stop → Type 0
NeverFails (Ok x) = Unit {0}
NeverFails (Err stop.Failed) = ⊥
NeverFails (Err (stop.Folder name)) = Unit {0}
NeverFails (Err stop.NoMemory) = Unit {0}

-- a folder that couldn't be made is this one
abbrev pub IfFolder : {X : Type 0} → (List ℕ → Type 0) → Result X Stop → Type 0
IfFolder P (Ok x) = Unit {0}
IfFolder P (Err stop.Failed) = Unit {0}
IfFolder P (Err (stop.Folder name)) = P name.now
IfFolder P (Err stop.NoMemory) = Unit {0}

-- after a failure of the shelf
abbrev pub IfFailed : {X : Type 0} → Type 0 → Result X Stop → Type 0
IfFailed P (Ok x) = Unit {0}
IfFailed P (Err stop.Failed) = P
IfFailed P (Err (stop.Folder name)) = Unit {0}
IfFailed P (Err stop.NoMemory) = Unit {0}

-- the shelf names this file in the last call that failed, or one of these
abbrev pub FailsAt : {X : Type 0} → Option (List ℕ) → List ℕ → Result X Stop → Type 0
FailsAt last name result = IfFailed (last ≡ Some name) result

pub record IsAmong (last : Option (List ℕ)) (names : List (List ℕ)) : Type 0 where
  pub name : List ℕ
  pub told : last ≡ Some name
  pub among : IsOneOf names name

abbrev pub FailsAmong : {X : Type 0} → Option (List ℕ) → List (List ℕ) → Result X Stop → Type 0
FailsAmong last names result = IfFailed (IsAmong last names) result
