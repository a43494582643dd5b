use Rattle.vl_lex.proofs.UntakenText.{untaken_piece}
use Rattle.vl_lex.proofs.laws.untaken_piece.Goals as goal

pub returns : goal.returns
returns c = untaken_piece
