use Rattle.vl_lex.proofs.OneReading.{lexes_one}
use Rattle.vl_lex.proofs.laws.one_outcome.Goals as goal

pub returns : goal.returns
returns c = lexes_one
