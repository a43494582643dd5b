-- The bytes are refused, or their tokens are.
use Rattle.std.proofs.lemmas.Result.{err_from_is_err_and}
use Rattle.sdf_read.specs.Phases.{Refuses}
use Rattle.sdf_read.specs.Reads.{Reads}
use Rattle.sdf_read.proofs.JoinedPhases.{exit_by, bytes_refused, parts_read, parts_refused}
use Rattle.sdf_read.proofs.sdf_files.read_parts.Goals as goal

pub returns-in_err-tokens-clause-refused : goal.returns-in_err-tokens-clause-refused
returns-in_err-tokens-clause-refused c =
    exit_by (Refuses (Reads c.args.bytes.now)) c.from_residual.result c.in_err-tokens.field-0.0 (err_from_is_err_and c.from_residual.result c.from_residual.ensures.1)
    (bytes_refused c.args.bytes.now c.in_err-tokens.field-0.0 c.in_err-tokens.ensures.refused)

pub returns-clause-read : goal.returns-clause-read
returns-clause-read c =
    parts_read c.args.bytes.now c.in_ok-tokens.tokens.items c.deref.result.now c.end_of.result c.read_tree.result c.deref.ensures.value c.end_of.ensures c.in_ok-tokens.ensures.read c.read_tree.ensures.spelled

pub returns-clause-refused : goal.returns-clause-refused
returns-clause-refused c =
    parts_refused c.args.bytes.now c.in_ok-tokens.tokens.items c.deref.result.now c.end_of.result c.read_tree.result c.deref.ensures.value c.end_of.ensures c.in_ok-tokens.ensures.read c.read_tree.ensures.refused
