-- The cells so far, and one more.
use Rattle.std.proofs.Common.{◌+◌, drop, take}
use Rattle.std.proofs.lemmas.Result.{err_from_is_err_and}
use Rattle.sdf_meaning.specs.MeantSeen.{view_sdf}
use Rattle.sdf_annotate.specs.Progress.{StoppedAt}
use Rattle.sdf_annotate.specs.Seen.{circuit_of, given_of, given_of_all}
use Rattle.sdf_annotate.proofs.CellSteps.{flat-split, stopped-front}
use Rattle.sdf_annotate.proofs.EntrySteps.{exit_by}
use Rattle.sdf_annotate.proofs.entries.annotate_cells.Goals as goal

pub returns-in_err-annotate_cell-clause-stopped : goal.returns-in_err-annotate_cell-clause-stopped
returns-in_err-annotate_cell-clause-stopped c =
    let circuit = circuit_of c.args.task.now in
    let sdf = view_sdf c.args.task.now.sdf.now in
    let corner = c.args.task.now.corner in
    let cells = c.args.cells.now in
    let i = c.loop-cell.cell-index in
    let x = c.cell-item.result in
    exit_by (StoppedAt circuit sdf corner (given_of_all cells) c.args.values.now) c.from_residual.result c.in_err-annotate_cell.field-0.0 (err_from_is_err_and c.from_residual.result c.from_residual.ensures.1)
    (stopped-front circuit sdf corner (given_of_all cells) (given_of_all (take i cells)) (given_of x) (given_of_all (drop (i + 1) cells))
    c.args.values.now c.loop-cell.values c.in_err-annotate_cell.field-0.0 (flat-split (λ cell. given_of cell) cells i x x c.loop-cell-test.true c.cell-item.is) c.loop-cell.invariant.came
    c.in_err-annotate_cell.ensures.stopped)
