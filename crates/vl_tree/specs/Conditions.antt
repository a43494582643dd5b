-- Conditions among the tokens of netlists (IEEE 1364-2005, 14.2.4 and 15.6): which words of a condition they are.
use Rattle.std.specs.Prelude.{Bool, true, false, List, Option, Some, None, unwrap_or}
use Rattle.std.specs.Option.{option_map}
use Rattle.cond_expr.specs.declared.tokens.Op.TheVariants as op
use Rattle.cond_expr.specs.declared.tokens.Tok.TheVariants as tok
use Rattle.cond_expr.specs.Grammar.{primary_starts, level_continues}
use Rattle.cond_expr.specs.Kinds as words
use Rattle.cond_expr.specs.Token.{Tok}
use Rattle.cond_expr.specs.Vocabulary.{Vocabulary}
use Rattle.cond_expr.specs.WordStates.{worded}
use Rattle.grammar.specs.Rule.{◌▸◌, ◌◂◌, holds, mapped, named, no_kind}
use Rattle.vl_token.specs.declared.symbols.Symbol.{Symbol}
use Rattle.vl_token.specs.declared.symbols.Symbol.TheVariants as symbol
use Rattle.vl_token.specs.Tokens.{Lexeme, Meaning, name_token, symbol_token}
use Rattle.vl_tree.specs.Expressions.{int}
use Rattle.vl_tree.specs.Kinds.{Kind, name_kind, symbol_kind, number_kind, sized_kind, unsized_kind, one_bit, z_bit, kind_of, is_symbol, value_of}
use Rattle.vl_tree.specs.Rules.{Grammar, mark, placed}
use Rattle.vl_tree.specs.Tree.{Word}

-- the operator or the parenthesis that a symbol is
abbrev pub word_of_symbol : Symbol → Option Tok
word_of_symbol symbol.Tilde = Some (tok.Op op.Tilde)
word_of_symbol symbol.Bang = Some (tok.Op op.Bang)
word_of_symbol symbol.And = Some (tok.Op op.And)
word_of_symbol symbol.Or = Some (tok.Op op.Or)
word_of_symbol symbol.Xor = Some (tok.Op op.Xor)
word_of_symbol symbol.Equal = Some (tok.Op op.Equal)
word_of_symbol symbol.Unequal = Some (tok.Op op.Unequal)
word_of_symbol symbol.CaseEqual = Some (tok.Op op.CaseEqual)
word_of_symbol symbol.CaseUnequal = Some (tok.Op op.CaseUnequal)
word_of_symbol symbol.TildeXor = Some (tok.Op op.TildeXor)
word_of_symbol symbol.XorTilde = Some (tok.Op op.XorTilde)
word_of_symbol symbol.AndAnd = Some (tok.Op op.AndAnd)
word_of_symbol symbol.OrOr = Some (tok.Op op.OrOr)
word_of_symbol symbol.LeftParen = Some tok.Left
word_of_symbol symbol.RightParen = Some tok.Right
word_of_symbol _ = None

-- an index begins with a bracket
abbrev pub class_of_symbol : Symbol → Option words.Kind
class_of_symbol symbol.LeftBracket = Some words.index_kind
class_of_symbol s = option_map words.kind_of (word_of_symbol s)

-- The kind of word that a token begins: a name but one of pulse limits, and 0, 1 and constants of one bit are operands.
abbrev pub class_of : Kind → Option words.Kind
class_of (name_kind false) = Some words.name_kind
class_of (symbol_kind s) = class_of_symbol s
class_of (number_kind true true) = Some words.constant_kind
class_of (sized_kind one_bit) = Some words.constant_kind
class_of (sized_kind z_bit) = Some words.constant_kind
class_of (unsized_kind one_bit) = Some words.constant_kind
class_of (unsized_kind z_bit) = Some words.constant_kind
class_of _ = None

-- the word that a token is alone
abbrev pub tok_of : Meaning → Tok
tok_of (name_token text) = tok.Name text
tok_of (symbol_token s) = unwrap_or (word_of_symbol s) tok.Left
tok_of m = tok.Const (value_of m)

abbrev pub word_of : Lexeme → Word
word_of t = record { place = t.place; token = tok_of t.meaning }

-- index = "[" int "]"
unfoldable pub index_parts : Grammar Word
index_parts = mapped (λ x. record { place = x.0; token = tok.Index x.1 }) (placed (mark symbol.LeftBracket ▸ (int ◂ mark symbol.RightBracket)))

abbrev pub index : Grammar Word
index = named (is_symbol symbol.LeftBracket) no_kind index_parts

-- condition: words that are one (IEEE 1364-2005, 5.1.2 has the precedence of operators), at any depth
abbrev pub vocabulary : Vocabulary Lexeme Kind Word
vocabulary = record { kind = kind_of; class = class_of; word = word_of; index = index; tok = λ w. w.token }

unfoldable pub condition_parts : Grammar (List Word)
condition_parts = worded vocabulary

abbrev pub condition_starts : Kind → Bool
condition_starts k = holds primary_starts (class_of k)

abbrev pub condition_continues : Kind → Bool
condition_continues k = holds (level_continues 6) (class_of k)

abbrev pub condition : Grammar (List Word)
condition = named condition_starts condition_continues condition_parts
