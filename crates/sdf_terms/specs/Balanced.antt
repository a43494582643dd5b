-- What it says that one token among paired parentheses was passed over.
use Rattle.std.specs.Prelude.{◌≡◌, ℕ, true, false, List, Option, Some, None, slice_get}
use Rattle.grammar.specs.Rule.{stands}
use Rattle.sdf_lex.specs.Tokens.{Lexeme}
use Rattle.sdf_tree.specs.Kinds.{kind_of}
use Rattle.sdf_tree.specs.Values.{is_inside, unclosed_after}

-- a token that may stand there, and how many parentheses are open behind it; or no such token
abbrev pub StepTaken : List Lexeme → ℕ → ℕ → Option ℕ → Type 0
StepTaken ts i unclosed None = stands kind_of (is_inside unclosed) ts i ≡ false
StepTaken ts i unclosed (Some after) = (t : Lexeme) × (slice_get ts i ≡ Some t) × (is_inside unclosed (kind_of t) ≡ true) × (unclosed_after unclosed t ≡ after)
