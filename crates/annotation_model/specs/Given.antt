-- The entries of an SDF file, each with what its cell says (IEEE 1497-2001, cell entries).
use Rattle.std.specs.Prelude.{ℕ, List, map}
use Rattle.std.specs.List.{flat_map}
use Rattle.sdf_tree.specs.Written.{Instance}
use Rattle.sdf_tree.specs.Meant.{Entry, Cell, Sdf}

pub record Given : Type 0 where
  pub cell_type : List ℕ
  pub instance : Instance
  pub entry : Entry

abbrev pub given_in : Cell → List Given
given_in cell = map (λ e. record { cell_type = cell.cell_type; instance = cell.instance; entry = e }) cell.entries

-- in file order, and in a cell in text order
abbrev pub given : Sdf → List Given
given sdf = flat_map given_in sdf.cells
