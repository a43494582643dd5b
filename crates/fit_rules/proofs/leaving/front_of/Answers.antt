-- Neither the piece nor the line goes over the end.
use Rattle.fit_rules.proofs.leaving.front_of.Goals as goal

pub returns-then-is_among-clause-within : goal.returns-then-is_among-clause-within
returns-then-is_among-clause-within c = c.greater.ensures.most _ c.first_piece-class.ensures.within c.line_size.ensures
