-- What is so of a search.
use Rattle.std.specs.Prelude.{◌≡◌, length}
use Rattle.sdf_tree.specs.Seen.{view_instance}
use Rattle.sdf_tree.specs.declared.tree.Cell as code_cell
use Rattle.annotation_finder.specs.Finding.{AreClear}
use Rattle.annotation_scopes.specs.Cells.{AreMarked, AreScopesOf}
use Rattle.sdf_annotate.specs.declared.search.Search as code_search
use Rattle.sdf_annotate.specs.declared.tasks.Task as code_task

-- there is a mark for each place, and none is set
pub record IsReady (task : code_task.Task) (s : code_search.Search) : Type 0 where
  pub marked : AreMarked (length task.places.now.parts.now.scopes.items) s.scopes
  pub spot_marks : length s.spots.items ≡ length task.places.now.spots.items
  pub check_marks : length s.checks.items ≡ length task.places.now.parts.now.checks.items
  pub spots_clear : AreClear s.spots.items
  pub checks_clear : AreClear s.checks.items

-- and the scopes are those of a cell
pub record IsReadyFor (task : code_task.Task) (cell : code_cell.Cell) (s : code_search.Search) : Type 0 where
  pub ready : IsReady task s
  pub scopes : AreScopesOf task.places.now task.sdf.now.divider cell.cell_type.now (view_instance cell.instance) s.scopes
