-- What a token is by the word that it is.
use Rattle.std.proofs.Common.{map}
use Rattle.sdf_lex.specs.Seen.{lexeme}
use Rattle.sdf_terms.proofs.Marks.{names_read, names_stand}
use Rattle.sdf_terms.proofs.named.named_at.Goals as goal

pub returns-clause-read : goal.returns-clause-read
returns-clause-read g c = let n = g.N.Names in rw c.named_word.ensures (names_read n.names n.other c.args.at (map lexeme c.args.tokens.now))

pub returns-clause-stands : goal.returns-clause-stands
returns-clause-stands g c = let n = g.N.Names in rw c.named_word.ensures (names_stand n.names n.other c.args.at (map lexeme c.args.tokens.now))
