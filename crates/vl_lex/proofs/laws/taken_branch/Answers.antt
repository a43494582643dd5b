use Rattle.vl_lex.proofs.TakenBranches.{taken_branch}
use Rattle.vl_lex.proofs.laws.taken_branch.Goals as goal

pub returns : goal.returns
returns c = taken_branch
