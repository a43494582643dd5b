-- One check more, or too many.
use Rattle.std.proofs.lemmas.Result.{err_from_is_err_and}
use Rattle.elab_paths.proofs.Putting.{exit-by}
use Rattle.elab_checks.proofs.OneByOne.{added-none, added-more, added-all, added-refused}
use Rattle.elab_checks.proofs.uses.add_checks.Goals as goal

pub loop-check-init : goal.loop-check-init
loop-check-init c = record { few = c.requires.few; added = added-none c.args.conditions.now c.args.here.table.now c.args.here.row.now c.args.here.lates.now c.args.here.scope c.args.made.now }

pub returns-in_err-add_check-clause-refused : goal.returns-in_err-add_check-clause-refused
returns-in_err-add_check-clause-refused c =
    exit-by _ c.from_residual.result c.in_err-add_check.field-0.0 (err_from_is_err_and c.from_residual.result c.from_residual.ensures.1)
    (added-refused c.args.conditions.now c.args.here.table.now c.args.here.row.now c.args.here.lates.now c.args.here.scope c.args.checks.now c.loop-check.check-index c.args.made.now c.loop-check.made c.in_err-add_check.field-0.0 c.loop-check-test.true
    c.loop-check.invariant.added c.in_err-add_check.ensures.refused)

pub loop-check-preserved : goal.loop-check-preserved
loop-check-preserved c = record {
  few = c.in_ok-add_check.ensures.few;
  added = added-more c.args.conditions.now c.args.here.table.now c.args.here.row.now c.args.here.lates.now c.args.here.scope c.args.checks.now c.loop-check.check-index _ c.args.made.now c.loop-check.made c.add_check.new.made
      c.loop-check-test.true c.loop-check.invariant.added c.in_ok-add_check.ensures.added;
}

pub returns-clause-uses : goal.returns-clause-uses
returns-clause-uses c =
    (added-all c.args.conditions.now c.args.here.table.now c.args.here.row.now c.args.here.lates.now c.args.here.scope c.args.checks.now c.loop-check.check-index c.args.made.now c.loop-check.made c.loop-check-test.false c.loop-check.invariant.added).made
