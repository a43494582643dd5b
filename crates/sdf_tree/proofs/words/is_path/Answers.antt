-- One name more, a part that is none, or the end.
use Rattle.std.proofs.Common.{sym, ◌∙◌}
use Rattle.cond_expr.proofs.WordReading.{none_if_not_some}
use Rattle.sdf_tree.proofs.PathLaws.{names_go_on, is_none, fewer, all_are}
use Rattle.sdf_tree.proofs.words.is_path.Goals as goal

pub returns-then-not-is_path_name : goal.returns-then-not-is_path_name
returns-then-not-is_path_name c =
    is_none c.args.divider c.more.left c.first_part.result.1 c.in-Some.path c.first_part.result.0.now c.in-Some.is c.first_part.ensures c.args.brackets _ c.takes_brackets.ensures _ (sym c.is_path_name.ensures ∙ c.if-not-is_path_name.true) c.more.invariant

pub more-smaller : goal.more-smaller
more-smaller c = fewer c.args.divider c.more.left c.first_part.result.1 c.in-Some.path c.first_part.result.0.now c.in-Some.is c.first_part.ensures

pub more-preserved : goal.more-preserved
more-preserved c =
    names_go_on c.args.divider c.more.left c.first_part.result.1 c.in-Some.path c.first_part.result.0.now c.in-Some.is c.first_part.ensures c.args.brackets _ c.takes_brackets.ensures _ (sym c.is_path_name.ensures ∙ c.if-not-is_path_name.false) c.more.invariant

pub returns : goal.returns
returns c = all_are c.args.divider c.more.left c.args.brackets _ (none_if_not_some c.more.left c.in_default.not-Some) c.more.invariant
