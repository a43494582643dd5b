use Rattle.written_giving.proofs.TreeBack.{tree_back}
use Rattle.written_giving.proofs.laws.tree_gives_back.Goals as goal

pub returns : goal.returns
returns c = tree_back
