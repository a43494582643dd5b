use Rattle.vl_lex.proofs.BranchLaws.{outer_reverse}
use Rattle.vl_lex.proofs.branches.outer.Goals as goal

pub returns : goal.returns
returns c = outer_reverse c.args.branches.now c.saturating_sub.result c.saturating_sub.ensures
