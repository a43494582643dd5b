-- What it says that one more delay was read onto the end of a list.
use Rattle.std.specs.Prelude.{◌≡◌, ℕ, ◌++◌, List, [], ◌∷◌, Result, Ok, Err}
use Rattle.grammar.specs.Reading.{Fails}
use Rattle.grammar.specs.Rule.{◌▸◌}
use Rattle.grammar.specs.declared.ReadFault.{ReadFault}
use Rattle.vl_token.specs.declared.symbols.Symbol.TheVariants.{Comma}
use Rattle.vl_token.specs.Tokens.{Lexeme}
use Rattle.vl_tree.specs.Amounts.{path_delay}
use Rattle.vl_tree.specs.Rules.{Grammar, mark}
use Rattle.vl_tree.specs.Seen.{view_amounts}
use Rattle.vl_tree.specs.Tree.{Amounts}
use Rattle.vl_tree.specs.declared.specify.Amounts as code

-- a delay and the comma before it
abbrev pub comma_delay : Grammar Amounts
comma_delay = mark Comma ▸ path_delay

-- the delay behind the comma stands at the end now, or there is none
abbrev pub IsAdded : List Lexeme → ℕ → List code.Amounts → List code.Amounts → Result ℕ ReadFault → Type 0
IsAdded ts i old new (Ok j) = (x : code.Amounts) × (new ≡ old ++ x ∷ []) × (comma_delay.read ts i ≡ Ok (view_amounts x, j))
IsAdded ts i old new (Err f) = Fails f (comma_delay.read ts i)
