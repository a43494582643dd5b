-- What is so of the scopes that the code has of a cell.
use Rattle.std.specs.Prelude.{◌≡◌, ℕ, ◌<◌, false, All, List, length, slice_index_or}
use Rattle.sg_circuit.specs.Seen.{circuit_seen}
use Rattle.sdf_tree.specs.declared.words.Divider.{Divider}
use Rattle.sdf_tree.specs.Written.{Instance}
use Rattle.annotation_model.specs.Ports.{has}
use Rattle.annotation_model.specs.Scopes.{is_of_cell}
use Rattle.annotation_places.specs.declared.places.Places as code_places
use Rattle.annotation_scopes.specs.declared.cells.CellScopes as code_scopes

-- there is a mark for each of so many scopes, which tells whether it stands in the list
pub record AreMarked (scopes : ℕ) (s : code_scopes.CellScopes) : Type 0 where
  pub count : length s.marks.items ≡ scopes
  pub within : All (λ t. t < scopes) s.list.items
  pub each : (t : ℕ) → slice_index_or s.marks.items t false ≡ has t s.list.items

-- they are those of a cell
pub record AreScopesOf (p : code_places.Places) (divider : Divider) (cell_type : List ℕ) (instance : Instance) (s : code_scopes.CellScopes) : Type 0 where
  pub each : (t : ℕ) → t < length p.parts.now.scopes.items → has t s.list.items ≡ is_of_cell (circuit_seen p.parts.now) divider cell_type instance t
