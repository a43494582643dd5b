-- Depth is refused, or the tree is.
use Rattle.std.proofs.Common.{map}
use Rattle.std.proofs.lemmas.Result.{err_from_is_err_and}
use Rattle.sdf_lex.specs.Seen.{lexeme}
use Rattle.sdf_read.specs.Outcomes.{Outcome}
use Rattle.sdf_read.specs.Phases.{Refuses}
use Rattle.sdf_read.proofs.JoinedPhases.{exit_by, depth_refused, tree_refused, tree_spelled}
use Rattle.sdf_read.proofs.sdf_files.read_tree.Goals as goal

pub returns-in_err-check_depth-clause-refused : goal.returns-in_err-check_depth-clause-refused
returns-in_err-check_depth-clause-refused c =
    exit_by (Refuses (Outcome (map lexeme c.args.tokens.now) c.args.end)) c.from_residual.result c.in_err-check_depth.field-0.0 (err_from_is_err_and c.from_residual.result c.from_residual.ensures.1)
    (depth_refused (map lexeme c.args.tokens.now) c.args.end c.in_err-check_depth.field-0.0 c.in_err-check_depth.ensures.refused)

pub returns-clause-spelled : goal.returns-clause-spelled
returns-clause-spelled c = tree_spelled (map lexeme c.args.tokens.now) c.args.end c.in_ok-check_depth.ensures.shallow c.read_written.result c.read_written.ensures.found

pub returns-clause-refused : goal.returns-clause-refused
returns-clause-refused c = tree_refused (map lexeme c.args.tokens.now) c.args.end c.in_ok-check_depth.ensures.shallow c.read_written.result c.read_written.ensures.fault
