use Rattle.vl_lex.specs.Directives.{are_no_effect}
use Rattle.vl_lex.proofs.directives.has_no_effect.Goals as goal

-- the code's words are the definition's, one by one
pub returns : goal.returns
unfolding are_no_effect
returns c = c.is_among.ensures
