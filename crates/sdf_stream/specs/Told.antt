-- What is told of a file: its entries, each with what its cell says.
use Rattle.std.specs.Prelude.{ℕ, List, map}
use Rattle.sdf_tree.specs.Meant.{Cell, Entry}
use Rattle.sdf_tree.specs.Seen.{view_instance}
use Rattle.sdf_tree.specs.Written.{Instance}
use Rattle.sdf_tree.specs.declared.tree.Cell as code_cell

pub record Told : Type 0 where
  pub cell_type : List ℕ
  pub instance : Instance
  pub entry : Entry

-- entries of a cell of this type at this instance
abbrev pub told_of : List ℕ → Instance → List Entry → List Told
told_of cell_type instance es = map (λ e. record { cell_type = cell_type; instance = instance; entry = e }) es

abbrev pub told : code_cell.Cell → List Entry → List Told
told cell es = told_of cell.cell_type.now (view_instance cell.instance) es

-- all entries of a cell
abbrev pub told_in : Cell → List Told
told_in cell = told_of cell.cell_type cell.instance cell.entries
