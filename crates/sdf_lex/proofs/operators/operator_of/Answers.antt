use Rattle.sdf_lex.specs.Operators.{operator_of, operator_rows}
use Rattle.sdf_lex.proofs.operators.operator_of.Goals as goal

-- the code's rows are the definition's, one by one
pub returns : goal.returns
unfolding operator_of operator_rows
returns c = c.operator_in.ensures
