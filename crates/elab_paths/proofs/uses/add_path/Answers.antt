-- One path more, or too many.
use Rattle.std.proofs.Common.{◌≡◌, ◌+◌, arith, length, subst}
use Rattle.std.proofs.lemmas.Result.{err_from_is_err_and}
use Rattle.elab_numbering.specs.Refusals.{RefusesCount}
use Rattle.elab_elements.proofs.Putting.{exit-by}
use Rattle.elab_paths.proofs.uses.add_path.Goals as goal

pub returns-in_err-check_count-clause-refused : goal.returns-in_err-check_count-clause-refused
returns-in_err-check_count-clause-refused c =
    exit-by _ c.from_residual.result c.in_err-check_count.field-0.0 (err_from_is_err_and c.from_residual.result c.from_residual.ensures.1)
    (λ more. subst (λ n. RefusesCount (n + 1 + more) c.in_err-check_count.field-0.0) (let e : c.len.result ≡ length c.args.paths.now.items = omega (arith, c.len.ensures, c.args.paths.now.ok.0) in e) (c.in_err-check_count.ensures.refused more))
