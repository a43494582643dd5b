-- What `lex` answers, as the definitions see it.
use Rattle.std.specs.Prelude.{take}
use Rattle.sdf_lex.specs.Tokens.{Meaning, Lexeme, word_token, selected_token, select_token, text_token, unended_token, operator_token, left_token, right_token, colon_token, star_token, other_token}
use Rattle.sdf_lex.specs.declared.tokens.Lexeme as over
use Rattle.sdf_lex.specs.declared.tokens.Lexeme.TheVariants as token
use Rattle.sdf_lex.specs.declared.tokens.Token.{Token}

abbrev pub meaning : over.Lexeme → Meaning
meaning (token.Word bytes) = word_token bytes.now
meaning (token.Selected size whole) = selected_token whole.now (take size whole.now)
meaning (token.Select n) = select_token n
meaning (token.Text bytes) = text_token bytes.now
meaning token.UnendedText = unended_token
meaning (token.Operator op) = operator_token op
meaning token.Left = left_token
meaning token.Right = right_token
meaning token.Colon = colon_token
meaning token.Star = star_token
meaning (token.Other b) = other_token b

abbrev pub lexeme : Token → Lexeme
lexeme t = record { meaning = meaning t.lexeme; place = record { file = 0; byte = t.byte } }
