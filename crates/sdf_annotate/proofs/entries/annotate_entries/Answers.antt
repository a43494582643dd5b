-- The entries so far, and one more.
use Rattle.std.proofs.Common.{◌+◌, [], ◌∷◌, arith, drop, map, take}
use Rattle.std.proofs.lemmas.Result.{err_from_is_err_and}
use Rattle.sdf_meaning.specs.MeantSeen.{view_sdf}
use Rattle.annotation_finder.specs.Finding.{given_seen}
use Rattle.sdf_annotate.specs.Progress.{StoppedAt}
use Rattle.sdf_annotate.specs.Seen.{circuit_of}
use Rattle.sdf_annotate.proofs.CellSteps.{all-split, came-all, stopped-front}
use Rattle.sdf_annotate.proofs.EntrySteps.{exit_by}
use Rattle.sdf_annotate.proofs.entries.annotate_entries.Goals as goal

pub returns-in_err-annotate_entry-clause-stopped : goal.returns-in_err-annotate_entry-clause-stopped
returns-in_err-annotate_entry-clause-stopped c =
    let circuit = circuit_of c.args.task.now in
    let sdf = view_sdf c.args.task.now.sdf.now in
    let corner = c.args.task.now.corner in
    let es = c.args.entries.now in
    let i = c.loop-entry.entry-index in
    let x = c.entry-item.result in
    exit_by (StoppedAt circuit sdf corner (map (λ e. given_seen c.args.cell.now e) es) c.args.values.now) c.from_residual.result c.in_err-annotate_entry.field-0.0 (err_from_is_err_and c.from_residual.result c.from_residual.ensures.1)
    (stopped-front circuit sdf corner (map (λ e. given_seen c.args.cell.now e) es) (map (λ e. given_seen c.args.cell.now e) (take i es)) (given_seen c.args.cell.now x ∷ []) (map (λ e. given_seen c.args.cell.now e) (drop (i + 1) es))
    c.args.values.now c.loop-entry.values c.in_err-annotate_entry.field-0.0 (all-split (λ e. given_seen c.args.cell.now e) es i x x c.loop-entry-test.true c.entry-item.is) c.loop-entry.invariant.came
    c.in_err-annotate_entry.ensures.stopped)

pub returns-clause-came : goal.returns-clause-came
returns-clause-came c =
    came-all (circuit_of c.args.task.now) (view_sdf c.args.task.now.sdf.now) c.args.task.now.corner (λ e. given_seen c.args.cell.now e) c.args.entries.now c.loop-entry.entry-index c.args.values.now c.loop-entry.values
    (omega (arith, c.loop-entry-test.false)) c.loop-entry.invariant.came
