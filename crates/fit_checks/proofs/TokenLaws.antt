-- Tokens that mean the same.
use Rattle.std.specs.Prelude.{◌≡◌, ℕ, List, [], ◌∷◌, codes, map, refl, slice_index_or}
use Rattle.std.proofs.Common.{sym, ◌∙◌, ap}
use Rattle.sg_logic.specs.declared.values.Value.TheVariants.{Zero}
use Rattle.vl_token.specs.Constants.{low_bits, sized_bits}
use Rattle.vl_token.specs.declared.bases.Base.TheVariants as base
use Rattle.vl_token.specs.Seen.{lexeme, meaning}
use Rattle.vl_token.specs.Symbols.{symbol_number}
use Rattle.vl_token.specs.declared.symbols.Symbol.{Symbol}
use Rattle.vl_token.specs.declared.symbols.Symbol.TheVariants as symbol
use Rattle.vl_token.specs.declared.tokens.Token.{Token}
use Rattle.vl_token.specs.declared.tokens.TokenKind.{TokenKind}
use Rattle.fit_checks.specs.WrittenSeen.{kinds_seen, meanings, tokens_seen}

-- the symbols by their numbers
abbrev by_number : List Symbol
by_number =
    symbol.Parallel ∷ symbol.Full ∷ symbol.AndAndAnd ∷ symbol.AndAnd ∷ symbol.And ∷ symbol.OrOr ∷ symbol.Or ∷ symbol.CaseEqual ∷ symbol.Equal ∷ symbol.Assign ∷ symbol.CaseUnequal ∷ symbol.Unequal ∷ symbol.Bang ∷ symbol.TildeXor ∷ symbol.XorTilde ∷ symbol.Xor ∷ symbol.Tilde ∷ symbol.LeftParen ∷ symbol.RightParen ∷ symbol.LeftBracket ∷ symbol.RightBracket ∷ symbol.LeftBrace ∷ symbol.RightBrace ∷ symbol.Comma ∷ symbol.Semicolon ∷ symbol.Colon ∷ symbol.Point ∷ symbol.Hash ∷ symbol.Plus ∷ symbol.Minus ∷ []

abbrev symbol_at : ℕ → Symbol
symbol_at n = slice_index_or by_number n symbol.Parallel

own_number : (s : Symbol) → symbol_at (symbol_number s) ≡ s
own_number symbol.Parallel = refl
own_number symbol.Full = refl
own_number symbol.AndAndAnd = refl
own_number symbol.AndAnd = refl
own_number symbol.And = refl
own_number symbol.OrOr = refl
own_number symbol.Or = refl
own_number symbol.CaseEqual = refl
own_number symbol.Equal = refl
own_number symbol.Assign = refl
own_number symbol.CaseUnequal = refl
own_number symbol.Unequal = refl
own_number symbol.Bang = refl
own_number symbol.TildeXor = refl
own_number symbol.XorTilde = refl
own_number symbol.Xor = refl
own_number symbol.Tilde = refl
own_number symbol.LeftParen = refl
own_number symbol.RightParen = refl
own_number symbol.LeftBracket = refl
own_number symbol.RightBracket = refl
own_number symbol.LeftBrace = refl
own_number symbol.RightBrace = refl
own_number symbol.Comma = refl
own_number symbol.Semicolon = refl
own_number symbol.Colon = refl
own_number symbol.Point = refl
own_number symbol.Hash = refl
own_number symbol.Plus = refl
own_number symbol.Minus = refl

-- symbols of one number are one symbol
pub same_symbol : (a b : Symbol) → symbol_number a ≡ symbol_number b → a ≡ b
same_symbol a b e = sym (own_number a) ∙ (ap symbol_at e ∙ own_number b)

-- the meanings of tokens are those of their lexemes
pub seen-lexemes : (ts : List Token) → tokens_seen ts ≡ meanings (map lexeme ts)
seen-lexemes [] = refl
seen-lexemes (t ∷ ts) = ap (λ ms. meaning t.kind ∷ ms) (seen-lexemes ts)

-- tokens that begin alike and go on alike
pub same-behind : (k : TokenKind) (t : Token) (ks : List TokenKind) (ts : List Token) → meaning k ≡ meaning t.kind → kinds_seen ks ≡ tokens_seen ts → kinds_seen (k ∷ ks) ≡ tokens_seen (t ∷ ts)
same-behind k t ks ts e h = ap (λ m. m ∷ kinds_seen ks) e ∙ ap (λ ms. meaning t.kind ∷ ms) h

-- 1'b0 is the bit 0
pub zero_bits : sized_bits 1 base.Binary (codes "0") ≡ Zero ∷ []
unfolding low_bits
zero_bits = refl
