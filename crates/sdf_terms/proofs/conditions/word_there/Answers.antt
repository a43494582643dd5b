-- The word is that of the token there.
use Rattle.std.proofs.Common.{Option, map, ap, ◌∙◌}
use Rattle.std.specs.Option.{option_map}
use Rattle.sdf_lex.specs.declared.tokens.Token.{Token}
use Rattle.sdf_lex.specs.Seen.{lexeme}
use Rattle.sdf_terms.proofs.WordOfToken.{word_is}
use Rattle.sdf_terms.proofs.conditions.word_there.Goals as goal

pub returns-in-Some : goal.returns-in-Some
returns-in-Some c = word_is (map lexeme c.args.tokens.now) c.args.at (lexeme c.in-Some.token) c.word_of.result (c.token_at.ensures ∙ ap (λ (o : Option Token). option_map lexeme o) c.in-Some.is) c.word_of.ensures
