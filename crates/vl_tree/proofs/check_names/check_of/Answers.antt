use Rattle.vl_tree.specs.CheckNames.{check_rows}
use Rattle.vl_tree.proofs.check_names.check_of.Goals as goal

-- the code's rows are the definition's, one by one
pub returns : goal.returns
unfolding check_rows
returns c = c.check_in.ensures
