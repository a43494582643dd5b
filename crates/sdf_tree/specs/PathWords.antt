-- The names of a path, and those that are left of it, as the code goes over them.
use Rattle.std.specs.Prelude.{ℕ, Bool, true, false, ◌||◌, ◌&&◌, List, [], ◌∷◌, Option, Some, None}
use Rattle.std.specs.Borrow.{Bor}
use Rattle.sdf_lex.specs.Names.{is_name, is_instance_name, path_parts}

abbrev pub path_name : (brackets : Bool) → List ℕ → Bool
path_name false part = is_name part
path_name true part = is_instance_name part

-- whether a name stands behind
abbrev pub goes_on : List (List ℕ) → Bool
goes_on [] = false
goes_on (p ∷ ps) = true

-- Names in which brackets may stand, but for the last, in which they may or not.
abbrev pub are_names : (brackets : Bool) → List (List ℕ) → Bool
are_names brackets [] = true
are_names brackets (p ∷ ps) = path_name (brackets || goes_on ps) p && are_names brackets ps

abbrev pub parts_left : ℕ → Option (Bor (List ℕ)) → List (List ℕ)
parts_left divider None = []
parts_left divider (Some path) = path_parts divider path.now
