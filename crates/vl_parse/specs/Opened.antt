-- A bridge, on which no public clause rests: the block that is open at a position, as the code finds it.
use Rattle.std.specs.Prelude.{◌≡◌, ℕ, ◌<◌, ◌≤◌, false, List, Option, Some, None}
use Rattle.grammar.specs.Rule.{stands}
use Rattle.vl_token.specs.Tokens.{Lexeme}
use Rattle.vl_tree.specs.Kinds.{kind_of}
use Rattle.vl_parse.specs.Parsed.{IsOpen, is_bound}

abbrev pub Opened : List Lexeme → ℕ → Option ℕ → Type 0
Opened ts e (Some s) = IsOpen ts s e
Opened ts e None = (s : ℕ) → IsOpen ts s e → ⊥

-- no block begins or ends from here on
abbrev pub NoneFrom : List Lexeme → ℕ → ℕ → Type 0
NoneFrom ts at e = (k : ℕ) → at ≤ k → k < e → stands kind_of is_bound ts k ≡ false
