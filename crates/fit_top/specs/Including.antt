-- What joins the code that reads included files to what is promised of them.
use Rattle.std.specs.Prelude.{ℕ, ◌≡◌, ◌⊎◌, List, Bool, true, false, Option, Some, None, Result, IfSome, bytes_eq}
use Rattle.std.specs.List.{list_any}
use Rattle.fit_text.specs.declared.given.Found as code_found
use Rattle.fit_text.specs.declared.given.Included as code_included
use Rattle.fit_words.specs.Words.{Asked, inputs_of}
use Rattle.fit_top.specs.Names.{IsOneOf, IsSought}
use Rattle.fit_top.specs.Stops.{IfFailed}
use Rattle.fit_top.specs.declared.stop.Stop.{Stop}

-- a file that was found was sought
abbrev pub GivesSought : Asked → Option code_found.Found → Type 0
GivesSought asked found = IfSome found (λ f. IsSought asked f.path.items)

-- whether a file was found under this name, and whether one of several was
abbrev pub has_path : List ℕ → Option code_found.Found → Bool
has_path file None = false
has_path file (Some f) = bytes_eq f.path.items file

abbrev pub any_has_path : List ℕ → List code_included.Included → Bool
any_has_path file included = list_any (λ i. has_path file i.found) included

-- all that were found were sought
abbrev pub AreSought : Asked → List code_included.Included → Type 0
AreSought asked included = (file : List ℕ) → any_has_path file included ≡ true → IsSought asked file

-- a file may include others
abbrev pub IsSource : Asked → List ℕ → Type 0
IsSource asked file = IsOneOf asked.netlists file ⊎ IsSought asked file

-- the shelf names a file that is read in the last call that failed
pub record IsReading (asked : Asked) (last : Option (List ℕ)) : Type 0 where
  pub name : List ℕ
  pub told : last ≡ Some name
  pub reached : IsOneOf (inputs_of asked) name ⊎ IsSought asked name

abbrev pub FailsReading : {X : Type 0} → Asked → Option (List ℕ) → Result X Stop → Type 0
FailsReading asked last result = IfFailed (IsReading asked last) result
