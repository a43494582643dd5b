use Rattle.std.proofs.lemmas.Result.{err_from_is_err_and}
use Rattle.fit_top.proofs.MakingLaws.{begun, made, not_begun}
use Rattle.fit_top.proofs.making.make_text.Goals as goal

pub returns-in_err-create-clause-file : goal.returns-in_err-create-clause-file
returns-in_err-create-clause-file g c =
    rw (err_from_is_err_and c.from_residual.result c.from_residual.ensures.1).1
    (not_begun c.args.name.now c.in_err-create.field-0.0 _ _ c.in_err-create.ensures.held)

pub returns-in_err-append-clause-file : goal.returns-in_err-append-clause-file
returns-in_err-append-clause-file g c =
    rw (err_from_is_err_and c.from_residual-in_err-append.result c.from_residual-in_err-append.ensures.1).1
    (begun c.args.name.now c.args.text.now c.in_err-append.field-0.0 _ _ _ c.in_ok-create.ensures.held c.in_err-append.ensures.held)

pub returns-clause-file : goal.returns-clause-file
returns-clause-file g c = made c.args.name.now c.args.text.now _ _ _ c.in_ok-create.ensures.held c.in_ok-append.ensures.held
