-- The code's tokens, as the definitions see them.
use Rattle.std.specs.Prelude.{ℕ, List}
use Rattle.std.specs.Borrow.{Bor}
use Rattle.sg_time.specs.declared.units.Scale.{Scale}
use Rattle.sg_time.specs.Seen.{number}
use Rattle.vl_token.specs.Tokens.{Timescale, Settings, Meaning, module_word, word_token, left_out_token, name_token, system_token, symbol_token, other_token, number_token, sized_token, unsized_token, pair_token, byte_token, Lexeme}
use Rattle.vl_token.specs.Symbols.{Row}
use Rattle.vl_token.specs.Constants.{sized_bits, unsized_bits}
use Rattle.vl_token.specs.declared.symbols.Symbol.{Symbol}
use Rattle.vl_token.specs.declared.tokens.Mark.{Mark}
use Rattle.vl_token.specs.declared.tokens.TokenKind.{TokenKind}
use Rattle.vl_token.specs.declared.tokens.TokenKind.TheVariants as token
use Rattle.vl_token.specs.declared.tokens.Token.{Token}

-- a row of the code's table of symbols
abbrev pub row : Bor (List ℕ) × Symbol → Row
row r = record { text = r.0.now; symbol = r.1 }

abbrev pub timescale : Scale → Timescale
timescale s = record { unit = s.unit.power; precision = s.precision.power }

abbrev pub settings : Mark → Settings
settings m = record { scale = timescale m.scale; cell = m.cell; implicit = m.implicit }

abbrev pub meaning : TokenKind → Meaning
meaning (token.Module m) = module_word (settings m)
meaning (token.Word word) = word_token word
meaning (token.LeftOut text) = left_out_token text.now
meaning (token.Name text) = name_token text.now
meaning (token.System text) = system_token text.now
meaning (token.Number d whole) = number_token (number d) whole
meaning (token.Sized c) = sized_token (sized_bits c.width c.base c.digits.now)
meaning (token.Unsized base digits) = unsized_token (unsized_bits base digits.now)
meaning (token.Pair from to) = pair_token from to
meaning (token.Symbol symbol) = symbol_token symbol
meaning (token.Byte b) = byte_token b
meaning (token.Other text) = other_token text.now

abbrev pub lexeme : Token → Lexeme
lexeme t = record { meaning = meaning t.kind; place = t.place }
