-- The scopes that the indexes give are those of the cell.
use Rattle.std.proofs.Common.{ℕ, ◌≡◌, ◌<◌, length}
use Rattle.std.proofs.lemmas.Result.{IfOk-weaker}
use Rattle.sdf_tree.specs.Seen.{view_instance}
use Rattle.sg_circuit.specs.Seen.{circuit_seen}
use Rattle.annotation_index.specs.Candidates.{cell_scopes}
use Rattle.annotation_model.specs.Ports.{has}
use Rattle.annotation_model.specs.Scopes.{is_of_cell}
use Rattle.annotation_places.specs.Places.{lookups_of}
use Rattle.annotation_scopes.proofs.CellLaws.{listed}
use Rattle.annotation_scopes.proofs.cells.scopes_of.Goals as goal

pub returns-clause-exact : goal.returns-clause-exact
returns-clause-exact c =
    IfOk-weaker c.indexed_scopes.result (λ v. v.items ≡ cell_scopes (lookups_of c.args.places.now) c.args.divider c.args.cell.now.cell_type.now (view_instance c.args.cell.now.instance))
    (λ v. (t : ℕ) → t < length c.args.places.now.parts.now.scopes.items → has t v.items ≡ is_of_cell (circuit_seen c.args.places.now.parts.now) c.args.divider c.args.cell.now.cell_type.now (view_instance c.args.cell.now.instance) t)
    (λ v e. listed c.args.places.now c.args.divider c.args.cell.now.cell_type.now (view_instance c.args.cell.now.instance) v.items c.requires.places e) c.indexed_scopes.ensures.items
