-- Conditions among the tokens of SDF files (IEEE 1497-2001, the clause on conditions): which words of a condition they are.
use Rattle.std.specs.Prelude.{ℕ, Bool, true, false, ◌||◌, List, Option, Some, None}
use Rattle.cond_expr.specs.declared.tokens.Tok.TheVariants as tok
use Rattle.cond_expr.specs.Grammar.{primary_starts}
use Rattle.cond_expr.specs.Kinds as words
use Rattle.cond_expr.specs.Token.{Tok}
use Rattle.cond_expr.specs.Vocabulary.{Vocabulary}
use Rattle.cond_expr.specs.WordStates.{worded}
use Rattle.grammar.specs.Rule.{holds, named}
use Rattle.sg_logic.specs.declared.values.Value.{Value}
use Rattle.sdf_lex.specs.Tokens.{Meaning, Lexeme, word_token, selected_token, operator_token, right_token}
use Rattle.sdf_tree.specs.Kinds.{Kind, word_kind, selected_kind, operator_kind, select_kind, left_kind, right_kind, kind_of, is_select, select_of}
use Rattle.sdf_tree.specs.Rules.{Grammar, token}
use Rattle.sdf_lex.specs.Names.{called, is_name}
use Rattle.sdf_tree.specs.Words.{constant_of}

-- a word is a constant, or else a name
abbrev pub word_class : Option Value → Bool → Option words.Kind
word_class (Some v) named = Some words.constant_kind
word_class None true = Some words.name_kind
word_class None false = None

-- The kind of word of a condition that a token begins. What stands before a bit select is a name, whose index the select is.
abbrev pub class_of : Kind → Option words.Kind
class_of (word_kind o text) = word_class (constant_of text) (is_name text)
class_of (selected_kind whole name) = word_class None (is_name name)
class_of select_kind = Some words.index_kind
class_of (operator_kind o) = Some (words.operator_kind o)
class_of left_kind = Some words.left_kind
class_of right_kind = Some words.right_kind
class_of _ = None

-- The word that a token is alone. A name is what it is called: without its backslashes (IEEE 1497-2001, the clause on identifiers).
abbrev pub word_tok : Option Value → List ℕ → Tok
word_tok (Some v) text = tok.Const v
word_tok None text = tok.Name (called text)

abbrev pub tok_of : Meaning → Tok
tok_of (word_token text) = word_tok (constant_of text) text
tok_of (selected_token whole name) = tok.Name (called name)
tok_of (operator_token o) = tok.Op o
tok_of right_token = tok.Right
tok_of _ = tok.Left

abbrev pub index : Grammar Tok
index = token (λ t. tok.Index (select_of t.meaning)) is_select

abbrev pub vocabulary : Vocabulary Lexeme Kind Tok
vocabulary = record { kind = kind_of; class = class_of; word = λ t. tok_of t.meaning; index = index; tok = λ t. t }

-- condition: words that are one (IEEE 1364-2005, 5.1.2 has the precedence of operators), at any depth
unfoldable pub condition_parts : Grammar (List Tok)
condition_parts = worded vocabulary

abbrev pub condition_starts : Kind → Bool
condition_starts k = holds primary_starts (class_of k)

-- operators that join
abbrev pub is_joining : Kind → Bool
is_joining (operator_kind o) = words.is_binary_up_to 6 (words.operator_kind o)
is_joining _ = false

abbrev pub condition_continues : Kind → Bool
condition_continues k = is_select k || is_joining k

abbrev pub condition : Grammar (List Tok)
condition = named condition_starts condition_continues condition_parts
