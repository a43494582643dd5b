use Rattle.sg_text.specs.Words.{reserved_rows}
use Rattle.sg_text.proofs.words.use_of.Goals as goal

-- the code's rows are the definition's, one by one
pub returns : goal.returns
unfolding reserved_rows
returns c = c.use_in.ensures
