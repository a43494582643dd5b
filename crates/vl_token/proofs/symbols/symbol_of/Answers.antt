use Rattle.vl_token.specs.Symbols.{symbol_rows}
use Rattle.vl_token.proofs.symbols.symbol_of.Goals as goal

-- the code's rows are the definition's, one by one
pub returns : goal.returns
unfolding symbol_rows
returns c = c.symbol_in.ensures
