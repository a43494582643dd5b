use Rattle.vl_lex.proofs.SomeReading.{lexes_some}
use Rattle.vl_lex.proofs.laws.some_outcome.Goals as goal

pub returns : goal.returns
returns c = lexes_some
