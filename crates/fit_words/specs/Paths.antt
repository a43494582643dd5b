-- The names of files as paths: their last parts, and their folders.
use lib.Pointwise.{pointwise}
use Rattle.std.specs.Prelude.{ℕ, List, [], ◌∷◌, ◌++◌, Bool, true, not, ◌&&◌, is_some, unwrap_or, codes}
use Rattle.std.specs.List.{filter, list_any}
use Rattle.std.specs.Path.{cur_dir, path_components, path_file_name, path_parent}
use Rattle.std.specs.Str.{bytes_eq}

-- the last part of a name; `..` and the root have none
abbrev pub has_last : List ℕ → Bool
has_last name = is_some (path_file_name name)

abbrev pub last_of : List ℕ → List ℕ
last_of name = unwrap_or (path_file_name name) []

-- the parts of a path, without each `.`, and where slashes are doubled or stand at the end, without those
abbrev pub parts_of : List ℕ → List (List ℕ)
parts_of path = filter (λ part. not (bytes_eq part cur_dir)) (path_components path)

-- the folder is that of the file of this name
abbrev pub is_folder_of : (folder name : List ℕ) → Bool
is_folder_of folder name = pointwise bytes_eq (parts_of (unwrap_or (path_parent name) [])) (parts_of folder)

-- no two texts are one
abbrev pub are_distinct : List (List ℕ) → Bool
are_distinct [] = true
are_distinct (text ∷ texts) = not (list_any (λ t. bytes_eq t text) texts) && are_distinct texts

-- the name of a file of this last part in a folder
abbrev pub name_in : (folder last : List ℕ) → List ℕ
name_in folder last = folder ++ codes "/" ++ last
