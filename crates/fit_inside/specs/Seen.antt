-- A bridge, on which no public clause rests.
use Rattle.std.specs.Prelude.{◌≡◌, ℕ, Bool, true, List, bytes_eq, length}
use Rattle.std.specs.Borrow.{Bor}
use Rattle.std.specs.List.{list_any}
use Rattle.vl_token.specs.Tokens.{Lexeme}
use Rattle.vl_tree.specs.Modules.{source}
use Rattle.vl_tree.specs.Tree.{Source}
use Rattle.fit_inside.specs.Inside.{is_flat}

-- whether a text is one of those that the code keeps
abbrev pub is_kept : List ℕ → List (Bor (List ℕ)) → Bool
is_kept n keys = list_any (λ y. bytes_eq n y.now) keys

-- tokens spell a tree in which no cell has an instance of a module
pub record AreFlat (tokens : List Lexeme) : Type 0 where
  pub tree : Source
  pub are_tree : source.language.Spells tokens 0 tree (length tokens)
  pub flat : is_flat tree ≡ true
