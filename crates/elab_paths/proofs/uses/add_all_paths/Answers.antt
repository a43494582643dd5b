-- One path more, or too many.
use Rattle.std.proofs.lemmas.Result.{err_from_is_err_and}
use Rattle.elab_elements.proofs.Putting.{exit-by}
use Rattle.elab_paths.proofs.AddedPaths.{adds-none, next-added, path-refused}
use Rattle.elab_paths.proofs.uses.add_all_paths.Goals as goal

pub loop-path-init : goal.loop-path-init
loop-path-init c = record { few = c.requires.few; added = adds-none c.args.conditions.now c.args.here.table.now c.args.here.row.now c.args.paths.now.items }

pub returns-in_err-add_path-clause-refused : goal.returns-in_err-add_path-clause-refused
returns-in_err-add_path-clause-refused c =
    exit-by _ c.from_residual.result c.in_err-add_path.field-0.0 (err_from_is_err_and c.from_residual.result c.from_residual.ensures.1)
    (λ total le. path-refused c.args.conditions.now c.args.here.table.now c.args.here.row.now c.requires.row.0 c.args.list.now c.loop-path.path-index c.args.paths.now.items c.loop-path.paths.items c.in_err-add_path.field-0.0 total
    c.requires.row.1 c.loop-path-test.true c.loop-path.invariant.added c.in_err-add_path.ensures.refused le)

pub loop-path-preserved : goal.loop-path-preserved
loop-path-preserved c = record {
  few = c.in_ok-add_path.ensures.few;
  added = next-added c.args.conditions.now c.args.here.table.now c.args.here.row.now c.args.list.now c.loop-path.path-index _ c.args.paths.now.items c.loop-path.paths.items c.add_path.new.paths.items c.loop-path-test.true
      c.loop-path.invariant.added c.in_ok-add_path.ensures.paths;
}
