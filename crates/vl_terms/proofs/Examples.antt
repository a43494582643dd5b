-- Worked examples of the definitions.
use Rattle.std.proofs.Common.{◌≡◌, [], ◌∷◌, Some, None, refl}
use Rattle.cond_expr.specs.declared.tokens.Op.TheVariants.{And}
use Rattle.cond_expr.specs.declared.tokens.Tok.TheVariants as tok
use Rattle.sg_logic.specs.declared.values.Value.TheVariants.{Zero, One, Z}
use Rattle.vl_token.specs.declared.symbols.Symbol.TheVariants as symbol
use Rattle.vl_token.specs.Tokens.{sized_token, symbol_token}
use Rattle.vl_terms.specs.Words.{word_alone}

an_operator : word_alone (symbol_token symbol.And) ≡ Some (tok.Op And)
an_operator = refl

a_bit : word_alone (sized_token (Z ∷ [])) ≡ Some (tok.Const Z)
a_bit = refl

two_bits : word_alone (sized_token (Zero ∷ One ∷ [])) ≡ None
two_bits = refl

-- an index is of several tokens
a_bracket : word_alone (symbol_token symbol.LeftBracket) ≡ None
a_bracket = refl
