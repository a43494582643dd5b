-- The entries of the cells so far were applied, and noted where they are for nothing.
use Rattle.std.proofs.Common.{take}
use Rattle.sdf_meaning.specs.MeantSeen.{view_sdf}
use Rattle.sdf_annotate.specs.Progress.{CameTo}
use Rattle.sdf_annotate.specs.Search.{IsReady}
use Rattle.sdf_annotate.specs.Seen.{circuit_of, given_of_all}
use Rattle.sdf_annotate.proofs.entries.annotate_cells.Given as goal

abbrev pub invariant-loop-cell : goal.invariant-loop-cell
invariant-loop-cell l = record {
  ready : IsReady l.task l.search;
  came : CameTo (circuit_of l.task) (view_sdf l.task.sdf.now) l.task.corner (given_of_all (take l.cell-index l.cells)) l.fn.values l.values;
}
