use Rattle.std.specs.Prelude.{Err}
use Rattle.std.proofs.Common.{◌∙◌, ap}
use Rattle.std.proofs.lemmas.Result.{err_from_is_err_and}
use Rattle.run_dump.specs.RunEnds.{with_found}
use Rattle.run_dump.proofs.run.end_of.Goals as goal

pub returns-in_err-spent : goal.returns-in_err-spent
returns-in_err-spent c =
    let p = err_from_is_err_and c.from_residual.result c.from_residual.ensures.1 in
    p.1 ∙ ap Err p.2 ∙ ap (with_found c.args.finished.tally.violations) c.in_err-spent.ensures

pub returns : goal.returns
returns c = ap (with_found c.args.finished.tally.violations) c.in_ok-spent.ensures
