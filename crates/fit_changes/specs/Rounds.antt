-- Rounds of changes: each changes the texts that the one before it made.
use Rattle.std.specs.Prelude.{ℕ, ◌≡◌, ◌∷◌, List, [], flat_map, map}
use Rattle.fit_changes.specs.Changes.{ChangedText, changed}
use Rattle.fit_changes.specs.Lines.{Line, lines_from}

-- the texts of files, as they were read and as they are written
abbrev pub read : List ChangedText → List (List ℕ)
read files = map (λ f. f.text) files

abbrev pub written : List ChangedText → List (List ℕ)
written files = map (λ f. changed f.text f.changes) files

-- the first round changes these texts, each further one those that the one before it made
abbrev pub AreRounds : List (List ℕ) → List (List ChangedText) → Type 0
AreRounds texts [] = Unit {0}
AreRounds texts (files ∷ rounds) = (read files ≡ texts) × AreRounds (written files) rounds

-- the texts after them
abbrev pub written_by : List (List ℕ) → List (List ChangedText) → List (List ℕ)
written_by texts [] = texts
written_by texts (files ∷ rounds) = written_by (written files) rounds

-- the lines of their changes, round by round
abbrev pub lines_by : List (List ChangedText) → List Line
lines_by rounds = flat_map (lines_from 0) rounds
