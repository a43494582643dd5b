-- A name and a list of names, and the names of files that are looked for.
use Rattle.std.specs.Prelude.{ℕ, ◌≡◌, ◌≢◌, ◌⊎◌, List, [], ◌∷◌, unwrap_or}
use Rattle.std.specs.Path.{path_join, path_parent}
use Rattle.fit_words.specs.Words.{Asked}

-- it is one of them
abbrev pub IsOneOf : List (List ℕ) → List ℕ → Type 0
IsOneOf [] name = ⊥
IsOneOf (n ∷ ns) name = (name ≡ n) ⊎ IsOneOf ns name

-- it is none of them
abbrev pub IsNoneOf : List (List ℕ) → List ℕ → Type 0
IsNoneOf [] name = Unit {0}
IsNoneOf (n ∷ ns) name = (name ≢ n) × IsNoneOf ns name

-- the file of a name, as one beside it calls it
abbrev pub beside : (file name : List ℕ) → List ℕ
beside file name = path_join (unwrap_or (path_parent file) []) name

-- A file that an `include` names (IEEE 1364-2005, 19.5) is sought beside the one that includes it, which is the netlist's or was itself
-- sought, and in the folders of `--include`.
pub data IsSought (asked : Asked) : List ℕ → Type 0 where
  beside_netlist : (file name : List ℕ) → IsOneOf asked.netlists file → IsSought asked (beside file name)
  beside_sought : (file name : List ℕ) → IsSought asked file → IsSought asked (beside file name)
  in_folder : (folder name : List ℕ) → IsOneOf asked.includes folder → IsSought asked (path_join folder name)
