-- The scopes that paths of names and cells speak of (IEEE 1497-2001, cell instances and hierarchical identifiers).
use Rattle.std.specs.Prelude.{ℕ, ◌==◌, Bool, false, List, [], ◌∷◌, map, reverse, Option, Some, None, bytes_eq, if◌then◌else◌}
use Rattle.sg_circuit.specs.Circuit.{Circuit, scope_at}
use Rattle.sdf_lex.specs.Names.{called, path_parts}
use Rattle.sdf_tree.specs.declared.words.Divider.{Divider}
use Rattle.sdf_tree.specs.Words.{divider_byte}
use Rattle.sdf_tree.specs.Written.{Instance, the_top, all_of_type, the_path}

-- the names of a path, the last one first
abbrev pub names_back : Divider → List ℕ → List (List ℕ)
names_back divider path = reverse (map called (path_parts (divider_byte divider) path))

-- The scope from which names lead to a scope, found by climbing: the last name is the scope's own, the one before it its parent's.
abbrev pub climb : Circuit → List (List ℕ) → Option ℕ → Option ℕ
climb c [] scope = scope
climb c (n ∷ ns) None = None
climb c (n ∷ ns) (Some s) = if bytes_eq (scope_at c s).name n then climb c ns (scope_at c s).parent else None

abbrev pub is_scope : ℕ → Option ℕ → Bool
is_scope s None = false
is_scope s (Some t) = t == s

-- whether a cell is for a scope: the top, one of the cell's type, or the one to which a path leads from the top
abbrev pub is_of_cell : Circuit → Divider → (cell_type : List ℕ) → Instance → ℕ → Bool
is_of_cell c divider cell_type the_top s = s == 0
is_of_cell c divider cell_type all_of_type s = bytes_eq (scope_at c s).module_name cell_type
is_of_cell c divider cell_type (the_path path) s = is_scope 0 (climb c (names_back divider path) (Some s))
