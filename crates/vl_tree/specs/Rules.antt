-- How the rules of the grammar are written.
use Rattle.std.specs.Prelude.{List, Option}
use Rattle.sg_text.specs.declared.places.Place.{Place}
use Rattle.sg_text.specs.declared.words.Keyword.{Keyword}
use Rattle.grammar.specs.Rule as rule
use Rattle.grammar.specs.Rule.{Rule}
use Rattle.grammar.specs.Placed as places
use Rattle.vl_token.specs.declared.symbols.Symbol.{Symbol}
use Rattle.vl_token.specs.declared.symbols.Symbol.TheVariants as symbol
use Rattle.vl_token.specs.Tokens.{Lexeme}
use Rattle.vl_tree.specs.Kinds.{Kind, ByteKind, kind_of, is_symbol, is_word, is_byte}

abbrev pub Grammar : Type 0 → Type 1
Grammar A = Rule Lexeme Kind A

-- tokens that the grammar quotes: a word, a symbol, a byte of a table
abbrev pub word : Keyword → Grammar (Unit {0})
word w = rule.quoted kind_of (is_word w)

abbrev pub mark : Symbol → Grammar (Unit {0})
mark s = rule.quoted kind_of (is_symbol s)

abbrev pub byte : ByteKind → Grammar (Unit {0})
byte b = rule.quoted kind_of (is_byte b)

-- a part with the place of its first token
abbrev pub placed : {A : Type 0} → Grammar A → Grammar (Place × A)
placed a = places.placed (λ t. t.place) a

abbrev pub either : {A : Type 0} → Grammar A → Grammar A → Grammar A
either a b = rule.either kind_of a b

abbrev pub optional : {A : Type 0} → Grammar A → Grammar (Option A)
optional a = rule.optional kind_of a

abbrev pub many : {A : Type 0} → Grammar A → Grammar (List A)
many a = rule.many kind_of a

-- a { "," a }
abbrev pub listed : {A : Type 0} → Grammar A → Grammar (List A)
listed a = rule.separated kind_of a (is_symbol symbol.Comma)
