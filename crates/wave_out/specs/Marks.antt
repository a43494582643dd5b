-- Marks of things by their numbers, in the bits of words.
use Rattle.std.specs.Prelude.{◌≡◌, ◌==◌, ◌/◌, ◌%◌, ◌*◌, ◌<◌, ◌≤◌, ◌^◌, ℕ, zero, suc, Bool, if◌then◌else◌, List, [], ◌∷◌, ◌++◌, length, slice_index_or}
use Rattle.std.specs.Int.{bit_at}
use Rattle.wave_out.specs.declared.marks.Marks.{Marks}

-- so many bits of a word, the lowest first
unfoldable pub bools : ℕ → ℕ → List Bool
bools zero word = []
bools (suc n) word = (word % 2 == 1) ∷ bools n (word / 2)

-- what is marked in words of 64 bits
abbrev pub seen : List ℕ → List Bool
seen [] = []
seen (w ∷ ws) = bools 64 w ++ seen ws

-- the numbers of what is marked, which are counted from k
abbrev pub trues : ℕ → List Bool → List ℕ
trues k [] = []
trues k (m ∷ ms) = if m then (k ∷ trues (suc k) ms) else trues (suc k) ms

-- whether a word's bit is set in the groups
abbrev pub word_bit : List ℕ → ℕ → ℕ
word_bit groups j = bit_at (slice_index_or groups (j / 64) 0) (j % 64)

-- there is a bit for each word, and there are no more words than 2^32 things need
pub record IsSized (m : Marks) : Type 0 where
  pub groups : length m.words.items ≤ 64 * length m.groups.items
  pub few : length m.groups.items ≤ length m.words.items
  pub most : length m.words.items ≤ 2 ^ 26

-- a word whose bit isn't set is 0, and none but words have a bit set
pub record AreMarks (m : Marks) : Type 0 where
  pub sized : IsSized m
  pub cover : (j : ℕ) → word_bit m.groups.items j ≡ 0 → slice_index_or m.words.items j 0 ≡ 0
  pub inside : (j : ℕ) → word_bit m.groups.items j ≡ 1 → j < length m.words.items

-- the first groups are 0, so many
abbrev pub IsDone : ℕ → Marks → Type 0
IsDone groups m = (j : ℕ) → j < groups → slice_index_or m.groups.items j 0 ≡ 0

-- there is room for so many, and nothing is marked
pub record AreClear (count : ℕ) (m : Marks) : Type 0 where
  pub marks : AreMarks m
  pub none : IsDone (length m.groups.items) m
  pub room : count ≤ 64 * length m.words.items

-- the numbers of what is marked
abbrev pub listed : Marks → List ℕ
listed m = trues 0 (seen m.words.items)
