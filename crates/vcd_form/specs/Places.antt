-- Places of a dump's text within no word, as a reader stands at.
use Rattle.std.specs.Prelude.{◌≡◌, ℕ, ◌-◌, ◌≤◌, List, length, drop}
use Rattle.vcd_form.specs.Words.{Word, words, words_from}

-- the words behind a place
abbrev pub left_at : List ℕ → ℕ → List Word
left_at text at = words_from at (drop at text)

-- how many words stand before it
unfoldable pub read_at : List ℕ → ℕ → ℕ
read_at text at = length (words text) - length (left_at text at)

-- no word goes on over the place
pub record IsBetween (text : List ℕ) (at : ℕ) : Type 0 where
  pub within : at ≤ length text
  pub left : drop (read_at text at) (words text) ≡ left_at text at
