-- One use more, or too many paths.
use Rattle.std.proofs.Common.{ℕ, ◌+◌, ◌≤◌, length, refl, subst}
use Rattle.std.proofs.lemmas.Result.{err_from_is_err_and}
use Rattle.elab_numbering.specs.Refusals.{RefusesCount}
use Rattle.elab_elements.proofs.Putting.{exit-by}
use Rattle.elab_paths.specs.Uses.{AddsPaths}
use Rattle.elab_paths.proofs.AddedPaths.{use-added}
use Rattle.elab_paths.proofs.uses.add_use.Goals as goal

pub returns-in_err-paths-clause-refused : goal.returns-in_err-paths-clause-refused
returns-in_err-paths-clause-refused c =
    exit-by _ c.from_residual.result c.in_err-paths.field-0.0 (err_from_is_err_and c.from_residual.result c.from_residual.ensures.1)
    (subst (λ xs. (total : ℕ) → length c.args.uses.now.paths.items + length xs ≤ total → RefusesCount total c.in_err-paths.field-0.0) c.deref.ensures.value c.in_err-paths.ensures.refused)

pub returns-clause-added : goal.returns-clause-added
returns-clause-added c =
    use-added c.args.conditions.now c.args.here.table.now c.args.here.row.now c.args.output.now c.args.uses.now _ _ c.in_ok-push.ensures.items
    (subst (λ xs. AddsPaths c.args.conditions.now c.args.here.table.now c.args.here.row.now xs c.args.uses.now.paths.items c.add_all_paths.new.paths.items) c.deref.ensures.value c.in_ok-paths.ensures.paths)
    c.in_ok-paths.ensures.span.0 c.in_ok-paths.ensures.span.1 refl
