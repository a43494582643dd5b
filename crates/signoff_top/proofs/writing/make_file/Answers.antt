use Rattle.std.proofs.Common.{refl}
use Rattle.std.proofs.lemmas.Result.{err_from_is_err_and}
use Rattle.wave_out.proofs.FileLaws.{begun}
use Rattle.signoff_top.proofs.Making.{added, not_added, not_created}
use Rattle.signoff_top.proofs.writing.make_file.Goals as goal

pub returns-in_err-append-clause-file : goal.returns-in_err-append-clause-file
returns-in_err-append-clause-file g c =
    rw (err_from_is_err_and c.from_residual-in_err-append.result c.from_residual-in_err-append.ensures.1).1
    (begun c.args.name.now c.args.text.now c.args.text.now _ _ _ _ refl c.in_ok-create.ensures.held c.in_err-append.ensures.held)

pub returns-in_err-create-clause-begun : goal.returns-in_err-create-clause-begun
returns-in_err-create-clause-begun g c =
    let p = err_from_is_err_and c.from_residual.result c.from_residual.ensures.1 in
    rw (p.1, p.2) (not_created c.args.name.now c.in_err-create.field-0.0 _ _ c.in_err-create.ensures.held)

pub returns-in_err-append-clause-begun : goal.returns-in_err-append-clause-begun
returns-in_err-append-clause-begun g c =
    let p = err_from_is_err_and c.from_residual-in_err-append.result c.from_residual-in_err-append.ensures.1 in
    rw (p.1, p.2) (not_added c.args.name.now c.args.text.now c.in_err-append.field-0.0 _ _ _ c.in_ok-create.ensures.held c.in_err-append.ensures.held)

pub returns-clause-begun : goal.returns-clause-begun
returns-clause-begun g c = added c.args.name.now c.args.text.now _ _ _ c.in_ok-create.ensures.held c.in_ok-append.ensures.held
