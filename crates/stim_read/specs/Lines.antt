-- The statements of a stimulus's text: its lines, cut into words.
use Rattle.std.specs.Prelude.{ℕ, suc, ◌+◌, ◌==◌, ◌||◌, Bool, true, false, not, List, [], ◌∷◌, length, map, filter, nat_lt, if◌then◌else◌}
use Rattle.std.specs.List.{slice_split, prefix_len}

-- a line, and the place of its first byte
pub record Line : Type 0 where
  pub start : ℕ
  pub bytes : List ℕ

-- a CR (13) before a LF is dropped
abbrev pub without_return : List ℕ → List ℕ
without_return [] = []
without_return (b ∷ []) = if b == 13 then [] else b ∷ []
without_return (b ∷ c ∷ bs) = b ∷ without_return (c ∷ bs)

-- rows one behind another, with a LF between them; behind the last one there is none
abbrev pub placed : ℕ → List (List ℕ) → List Line
placed start [] = []
placed start (row ∷ []) = record { start = start; bytes = row } ∷ []
placed start (row ∷ next ∷ rows) = record { start = start; bytes = without_return row } ∷ placed (suc (start + length row)) (next ∷ rows)

-- a line is what stands between line feeds (10)
unfoldable pub lines : List ℕ → List Line
lines text = placed 0 (slice_split (λ b. b == 10) text)

-- words stand apart by spaces and tabs
abbrev pub is_blank : ℕ → Bool
is_blank b = (b == 32) || (b == 9)

unfoldable pub words : List ℕ → List (List ℕ)
words line = filter (λ w. nat_lt 0 (length w)) (slice_split is_blank line)

-- a statement: the place of its first byte that is no blank, and its words
pub record Statement : Type 0 where
  pub byte : ℕ
  pub words : List (List ℕ)

abbrev pub statement : Line → Statement
statement l = record { byte = l.start + prefix_len is_blank l.bytes; words = words l.bytes }

-- a line of blanks is passed over, and one whose first byte other than a blank is `#`
abbrev pub begins_with : ℕ → List ℕ → Bool
begins_with b [] = false
begins_with b (c ∷ cs) = c == b

abbrev pub is_passed_over : List (List ℕ) → Bool
is_passed_over [] = true
is_passed_over (w ∷ ws) = begins_with 35 w

abbrev pub statements : List ℕ → List Statement
statements text = filter (λ s. not (is_passed_over s.words)) (map statement (lines text))
