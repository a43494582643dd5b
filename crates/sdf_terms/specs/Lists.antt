-- What it says that one more delay was read onto the end of a list.
use Rattle.std.specs.Prelude.{◌≡◌, ℕ, ◌++◌, List, [], ◌∷◌, Result, Ok, Err}
use Rattle.grammar.specs.Reading.{Fails}
use Rattle.grammar.specs.declared.ReadFault.{ReadFault}
use Rattle.sdf_lex.specs.Tokens.{Lexeme}
use Rattle.sdf_tree.specs.declared.written.WrittenDelay.{WrittenDelay}
use Rattle.sdf_tree.specs.Seen.{view_delay}
use Rattle.sdf_tree.specs.Values.{delay}

-- the delay that stands there is at the end now, or there is none
abbrev pub IsAdded : List Lexeme → ℕ → List WrittenDelay → List WrittenDelay → Result ℕ ReadFault → Type 0
IsAdded ts i old new (Ok j) = (x : WrittenDelay) × (new ≡ old ++ x ∷ []) × (delay.read ts i ≡ Ok (view_delay x, j))
IsAdded ts i old new (Err f) = Fails f (delay.read ts i)
