use Rattle.vl_lex.proofs.Conditionals.{taken_text}
use Rattle.vl_lex.proofs.laws.taken_text.Goals as goal

pub returns : goal.returns
returns c = taken_text
