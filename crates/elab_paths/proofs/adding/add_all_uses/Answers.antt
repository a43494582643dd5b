-- One output more, or too many.
use Rattle.std.proofs.Common.{ℕ, ◌+◌, ◌≤◌, length, subst}
use Rattle.std.proofs.lemmas.Result.{err_from_is_err_and}
use Rattle.elab_numbering.specs.Refusals.{RefusesCount}
use Rattle.elab_elements.proofs.Putting.{exit-by}
use Rattle.elab_paths.specs.Uses.{AddsUse}
use Rattle.elab_paths.proofs.OneByOne.{added-more, added-all, added-refused}
use Rattle.elab_paths.proofs.adding.add_all_uses.Goals as goal

pub returns-in_err-add_use-clause-refused : goal.returns-in_err-add_use-clause-refused
returns-in_err-add_use-clause-refused c =
    exit-by _ c.from_residual.result c.in_err-add_use.field-0.0 (err_from_is_err_and c.from_residual.result c.from_residual.ensures.1)
    (added-refused c.args.conditions.now c.args.here.table.now c.args.here.row.now c.args.outputs.now c.loop-output.output-index c.output-item.result c.args.uses.now c.loop-output.uses
    c.in_err-add_use.field-0.0 c.loop-output-test.true c.loop-output.invariant.added
    (subst (λ o. (total : ℕ) → length c.loop-output.uses.paths.items + length o.paths.items ≤ total → RefusesCount total c.in_err-add_use.field-0.0) c.output-item.is c.in_err-add_use.ensures.refused))

pub loop-output-preserved : goal.loop-output-preserved
loop-output-preserved c = record {
  few = c.in_ok-add_use.ensures.few;
  added = added-more c.args.conditions.now c.args.here.table.now c.args.here.row.now c.requires.row.0 c.args.outputs.now c.loop-output.output-index c.output-item.result c.args.uses.now c.loop-output.uses c.add_use.new.uses
      c.requires.row.1 c.loop-output-test.true c.loop-output.invariant.added
      (subst (λ o. AddsUse c.args.conditions.now c.args.here.table.now c.args.here.row.now o c.loop-output.uses c.add_use.new.uses) c.output-item.is c.in_ok-add_use.ensures.added);
}

pub returns-clause-uses : goal.returns-clause-uses
returns-clause-uses c =
    (added-all c.args.conditions.now c.args.here.table.now c.args.here.row.now c.args.outputs.now c.loop-output.output-index c.args.uses.now c.loop-output.uses c.loop-output-test.false c.loop-output.invariant.added).made
