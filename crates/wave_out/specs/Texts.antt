-- Small texts that a dump is made of.
use Rattle.std.specs.Prelude.{ℕ, suc, List, [], ◌∷◌, ◌++◌, ◌&&◌, not, if◌then◌else◌}
use Rattle.sg_text.specs.Names.{is_simple}
use Rattle.sg_text.specs.Words.{is_reserved_word}

-- a line ends with LF
abbrev pub line : List ℕ → List ℕ
line text = text ++ 10 ∷ []

-- the texts of some things by their numbers, from k on
abbrev pub by_number : {A : Type 0} → (ℕ → A → List ℕ) → ℕ → List A → List ℕ
by_number f k [] = []
by_number f k (x ∷ xs) = f k x ++ by_number f (suc k) xs

-- a name as it is written: with a backslash where it is no simple identifier or is a reserved word (3.7.1, 3.7.2)
abbrev pub written_name : List ℕ → List ℕ
written_name name = if is_simple name && not (is_reserved_word name) then name else 92 ∷ name
