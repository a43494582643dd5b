-- What stands at a position, as the code finds it.
use Rattle.std.specs.Prelude.{ℕ, ◌+◌, Option, Some, None, Result, Ok, Err}
use Rattle.sdf_lex.specs.Tokens.{Meaning, Lexeme, word_token}
use Rattle.sdf_tree.specs.declared.keywords.Keyword.{Keyword}
use Rattle.sdf_tree.specs.Keywords.{keyword_of}

-- the word of the grammar that a token is
abbrev pub word_of_meaning : Meaning → Option Keyword
word_of_meaning (word_token text) = keyword_of text
word_of_meaning _ = None

abbrev pub word_there : Option Lexeme → Option Keyword
word_there None = None
word_there (Some t) = word_of_meaning t.meaning

-- what a word of the grammar names, if it names something
abbrev pub named_there : {A : Type 0} → (Keyword → Option A) → Option Keyword → Option A
named_there f None = None
named_there f (Some w) = f w

-- one token and what it carries, or a fault there
abbrev pub found : {A : Type 0} → Option A → ℕ → Result (A × ℕ) ℕ
found None i = Err i
found (Some x) i = Ok (x, i + 1)
