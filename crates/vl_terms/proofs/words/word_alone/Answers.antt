-- The token there is this word.
use Rattle.std.proofs.Common.{map, refl, sym}
use Rattle.sg_text.specs.declared.refusals.NoMemory.{NoMemory}
use Rattle.vl_token.specs.Seen.{lexeme}
use Rattle.vl_terms.proofs.WordOfToken.{word_there}
use Rattle.vl_terms.proofs.words.word_alone.Goals as goal

pub returns-in-Some-2 : goal.returns-in-Some-2
returns-in-Some-2 c = word_there (map lexeme c.args.tokens.now) c.args.at (lexeme c.in-Some.token) c.in-Some.ensures NoMemory (record { place = c.in-Some.token.place; token = c.in-Some-2.word }) (sym (rw c.in-Some-2.is at c.in_ok-word.ensures)) refl
