-- The symbols of netlists (IEEE 1364-2005, the clause on operators) and their spellings.
use Rattle.std.specs.Prelude.{ℕ, List, [], ◌∷◌, Option, Some, None, codes, nat_eq, if◌then◌else◌}
use lib.Pointwise.{pointwise}
use Rattle.vl_token.specs.declared.symbols.Symbol.{Symbol}
use Rattle.vl_token.specs.declared.symbols.Symbol.TheVariants as symbol

-- a symbol and its spelling
pub record Row : Type 0 where
  pub text : List ℕ
  pub symbol : Symbol

abbrev pub spells : List ℕ → Symbol → Row
spells text symbol = record { text = text; symbol = symbol }

unfoldable pub symbol_rows : List Row
symbol_rows =
    spells (codes "=>") symbol.Parallel ∷ spells (codes "*>") symbol.Full ∷
    spells (codes "&&&") symbol.AndAndAnd ∷ spells (codes "&&") symbol.AndAnd ∷
    spells (codes "&") symbol.And ∷ spells (codes "||") symbol.OrOr ∷ spells (codes "|") symbol.Or ∷
    spells (codes "===") symbol.CaseEqual ∷ spells (codes "==") symbol.Equal ∷
    spells (codes "=") symbol.Assign ∷ spells (codes "!==") symbol.CaseUnequal ∷
    spells (codes "!=") symbol.Unequal ∷ spells (codes "!") symbol.Bang ∷
    spells (codes "~^") symbol.TildeXor ∷ spells (codes "^~") symbol.XorTilde ∷
    spells (codes "^") symbol.Xor ∷ spells (codes "~") symbol.Tilde ∷ spells (codes "(") symbol.LeftParen ∷
    spells (codes ")") symbol.RightParen ∷ spells (codes "[") symbol.LeftBracket ∷
    spells (codes "]") symbol.RightBracket ∷ spells (codes "{") symbol.LeftBrace ∷
    spells (codes "}") symbol.RightBrace ∷ spells (codes ",") symbol.Comma ∷
    spells (codes ";") symbol.Semicolon ∷ spells (codes ":") symbol.Colon ∷ spells (codes ".") symbol.Point ∷
    spells (codes "#") symbol.Hash ∷ spells (codes "+") symbol.Plus ∷ spells (codes "-") symbol.Minus ∷ []

-- the symbol of the first of some rows with a spelling
abbrev pub symbol_in : List ℕ → List Row → Option Symbol
symbol_in text [] = None
symbol_in text (r ∷ rs) = if pointwise nat_eq r.text text then Some r.symbol else symbol_in text rs

-- the symbol that a text spells
abbrev pub symbol_of : List ℕ → Option Symbol
symbol_of text = symbol_in text symbol_rows

-- symbols are told apart by their numbers
abbrev pub symbol_number : Symbol → ℕ
symbol_number symbol.Parallel = 0
symbol_number symbol.Full = 1
symbol_number symbol.AndAndAnd = 2
symbol_number symbol.AndAnd = 3
symbol_number symbol.And = 4
symbol_number symbol.OrOr = 5
symbol_number symbol.Or = 6
symbol_number symbol.CaseEqual = 7
symbol_number symbol.Equal = 8
symbol_number symbol.Assign = 9
symbol_number symbol.CaseUnequal = 10
symbol_number symbol.Unequal = 11
symbol_number symbol.Bang = 12
symbol_number symbol.TildeXor = 13
symbol_number symbol.XorTilde = 14
symbol_number symbol.Xor = 15
symbol_number symbol.Tilde = 16
symbol_number symbol.LeftParen = 17
symbol_number symbol.RightParen = 18
symbol_number symbol.LeftBracket = 19
symbol_number symbol.RightBracket = 20
symbol_number symbol.LeftBrace = 21
symbol_number symbol.RightBrace = 22
symbol_number symbol.Comma = 23
symbol_number symbol.Semicolon = 24
symbol_number symbol.Colon = 25
symbol_number symbol.Point = 26
symbol_number symbol.Hash = 27
symbol_number symbol.Plus = 28
symbol_number symbol.Minus = 29
