-- What is refused before it is meant, or what is meant; and there is no other.
use Rattle.std.proofs.Common.{Ok}
use Rattle.std.proofs.lemmas.Result.{err_from_is_err_and}
use Rattle.sdf_tree.specs.Seen.{view_file}
use Rattle.sdf_read.proofs.JoinedPhases.{exit_stands, values_refused, is_meant, tells}
use Rattle.sdf_read.proofs.sdf_files.read_sdf.Goals as goal

pub returns-in_err-file-clause-found : goal.returns-in_err-file-clause-found
returns-in_err-file-clause-found c = exit_stands c.args.bytes.now c.from_residual.result c.in_err-file.field-0.0 (err_from_is_err_and c.from_residual.result c.from_residual.ensures.1) c.in_err-file.ensures.refused

pub returns-in_err-file-clause-only : goal.returns-in_err-file-clause-only
returns-in_err-file-clause-only c =
    tells c.args.bytes.now c.from_residual.result
    (exit_stands c.args.bytes.now c.from_residual.result c.in_err-file.field-0.0 (err_from_is_err_and c.from_residual.result c.from_residual.ensures.1) c.in_err-file.ensures.refused)

pub returns-in_err-check_values-clause-found : goal.returns-in_err-check_values-clause-found
returns-in_err-check_values-clause-found c =
    let r = c.from_residual-in_err-check_values in
    exit_stands c.args.bytes.now r.result c.in_err-check_values.field-0.0 (err_from_is_err_and r.result r.ensures.1)
    (values_refused c.args.bytes.now (view_file c.in_ok-file.file) c.in_ok-file.ensures.read c.in_err-check_values.field-0.0 c.in_err-check_values.ensures.refused)

pub returns-in_err-check_values-clause-only : goal.returns-in_err-check_values-clause-only
returns-in_err-check_values-clause-only c =
    let r = c.from_residual-in_err-check_values in
    tells c.args.bytes.now r.result
    (exit_stands c.args.bytes.now r.result c.in_err-check_values.field-0.0 (err_from_is_err_and r.result r.ensures.1)
    (values_refused c.args.bytes.now (view_file c.in_ok-file.file) c.in_ok-file.ensures.read c.in_err-check_values.field-0.0 c.in_err-check_values.ensures.refused))

pub returns-clause-found : goal.returns-clause-found
returns-clause-found c = is_meant c.args.bytes.now (view_file c.in_ok-file.file) c.in_ok-file.ensures.read c.in_ok-sdf.sdf c.in_ok-check_values.ensures.faultless c.in_ok-sdf.ensures

pub returns-clause-only : goal.returns-clause-only
returns-clause-only c =
    tells c.args.bytes.now (Ok c.in_ok-sdf.sdf)
    (is_meant c.args.bytes.now (view_file c.in_ok-file.file) c.in_ok-file.ensures.read c.in_ok-sdf.sdf c.in_ok-check_values.ensures.faultless c.in_ok-sdf.ensures)
