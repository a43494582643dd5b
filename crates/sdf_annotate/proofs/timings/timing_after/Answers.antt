-- The scope of a row is one of the circuit's.
use Rattle.sdf_annotate.proofs.ScopeLaws.{scope-of-row}
use Rattle.sdf_annotate.proofs.timings.timing_after.Goals as goal

pub grid_of-grid-requires-clause-scope : goal.grid_of-grid-requires-clause-scope
grid_of-grid-requires-clause-scope c = scope-of-row c.args.task.now.places.now.parts.now c.args.row c.scope.result c.requires.places.closed c.requires.row c.scope.ensures
