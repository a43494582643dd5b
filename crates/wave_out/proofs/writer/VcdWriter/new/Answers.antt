use Rattle.std.proofs.Common.{◌∙◌}
use Rattle.std.proofs.lemmas.Result.{err_from_is_err_and}
use Rattle.wave_out.specs.Vcd.{header}
use Rattle.wave_out.proofs.FileLaws.{begun, begun_wanting}
use Rattle.wave_out.proofs.writer.VcdWriter.new.Goals as goal

pub returns-in_err-append-clause-file : goal.returns-in_err-append-clause-file
returns-in_err-append-clause-file g c =
    rw (err_from_is_err_and c.from_residual-in_err-append.result c.from_residual-in_err-append.ensures.1).1
    (begun c.args.name.now c.deref-3.result.now (header c.args.circuit.now) _ _ _ _ (c.deref-3.ensures.value ∙ c.in_ok-header.ensures) c.in_ok-create.ensures.held c.in_err-append.ensures.held)

pub returns-in_err-append-clause-wanting : goal.returns-in_err-append-clause-wanting
returns-in_err-append-clause-wanting g c =
    begun_wanting _ c.args.name.now c.deref-3.result.now c.from_residual-in_err-append.result c.in_err-append.field-0.0 _ _ _ (err_from_is_err_and c.from_residual-in_err-append.result c.from_residual-in_err-append.ensures.1)
    c.in_ok-create.ensures.held c.in_err-append.ensures.held
