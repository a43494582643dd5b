-- A dump's text as words, which stand apart by blanks (IEEE 1364-2005, 18.2).
use Rattle.std.specs.Prelude.{ℕ, suc, ◌+◌, ◌==◌, ◌||◌, Bool, List, [], ◌∷◌, length, filter, nat_lt, Option, Some, None, slice_get}
use Rattle.std.specs.List.{slice_split}

-- a word, and the place of its first byte
pub record Word : Type 0 where
  pub byte : ℕ
  pub bytes : List ℕ

-- a space, a tab, a line feed or a carriage return
abbrev pub is_blank : ℕ → Bool
is_blank b = (b == 32) || (b == 9) || (b == 10) || (b == 13)

-- rows one behind another, with a blank between them
abbrev pub placed : ℕ → List (List ℕ) → List Word
placed start [] = []
placed start (row ∷ rows) = record { byte = start; bytes = row } ∷ placed (suc (start + length row)) rows

-- the words behind a place, where that text stands
unfoldable pub words_from : ℕ → List ℕ → List Word
words_from start text = filter (λ w. nat_lt 0 (length w.bytes)) (placed start (slice_split is_blank text))

abbrev pub words : List ℕ → List Word
words text = words_from 0 text

-- the place of a word, or the end of the text
abbrev pub byte_or : ℕ → Option Word → ℕ
byte_or end None = end
byte_or end (Some w) = w.byte

abbrev pub byte_of : List ℕ → ℕ → ℕ
byte_of text n = byte_or (length text) (slice_get (words text) n)
