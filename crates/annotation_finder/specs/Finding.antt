-- Words of the code that finds places.
use Rattle.std.specs.Prelude.{◌≡◌, ℕ, Bool, false, List, slice_index_or}
use Rattle.sdf_meaning.specs.MeantSeen.{view_meant}
use Rattle.sdf_tree.specs.Seen.{view_instance}
use Rattle.sdf_tree.specs.declared.tree.Cell as code_cell
use Rattle.sdf_tree.specs.declared.tree.Entry as code_entry
use Rattle.annotation_model.specs.Given.{Given}
use Rattle.annotation_index.specs.Picking.{ArePicked}

-- an entry with what its cell says, as the definitions see it
abbrev pub given_seen : code_cell.Cell → code_entry.Entry → Given
given_seen cell entry = record { cell_type = cell.cell_type.now; instance = view_instance cell.instance; entry = view_meant entry }

-- no mark is set
abbrev pub AreClear : List Bool → Type 0
AreClear marks = (k : ℕ) → slice_index_or marks k false ≡ false

-- whether a number is marked
abbrev pub is_marked : List Bool → ℕ → Bool
is_marked marks k = slice_index_or marks k false

-- of the candidates seen, those that pass are listed, each once
abbrev pub ArePickedOf : (test : ℕ → Bool) → (seen found : List ℕ) → Type 0
ArePickedOf test seen found = (marks : List Bool) × ArePicked test seen marks found
