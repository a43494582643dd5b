-- Languages for which it doesn't matter how many tokens stand before those that spell a value.
use Rattle.std.specs.Prelude.{ℕ, ◌+◌, List, ◌++◌, length}
use Rattle.grammar.specs.Language.{Language}
use Rattle.grammar.specs.Rule.{Rule}

-- What tokens spell they spell behind others.
pub record IsMovable {T A : Type 0} (l : Language T A) : Type 0 where
  pub moved : (front ts : List T) (i : ℕ) (x : A) (j : ℕ) → l.Spells ts i x j → l.Spells (front ++ ts) (length front + i) x (length front + j)

pub record Moves {T K A : Type 0} (r : Rule T K A) : Type 0 where
  pub movable : IsMovable r.language

-- all of these tokens spell a value
abbrev pub Says : {T K A : Type 0} → Rule T K A → List T → A → Type 0
Says r ts x = r.language.Spells ts 0 x (length ts)
