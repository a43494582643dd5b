-- What the code finds at places: the part of a list that is a row, and whether a definition is a module.
use Rattle.std.specs.Prelude.{◌≡◌, ℕ, Bool, true, false, ◌+◌, ◌≤◌, List, Option, Some, length, slice_get}
use Rattle.vl_tree.specs.Tree.{Part, a_module, a_primitive}
use Rattle.elab_nets.specs.Rows.{part_of}

-- the row that begins at a place that is listed
abbrev pub IsRow : {A : Type 0} → List ℕ → List A → ℕ → ℕ → Option (List A) → Type 0
IsRow starts numbers instance count part = (start : ℕ) → slice_get starts instance ≡ Some start → start + count ≤ length numbers → part ≡ Some (part_of numbers start count)

abbrev pub is_module : Part → Bool
is_module (a_module m) = true
is_module (a_primitive p) = false
