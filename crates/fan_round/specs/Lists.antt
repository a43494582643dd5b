-- Lists of numbers without repeats, and what going over such a list does to a table.
use Rattle.std.specs.Prelude.{◌≡◌, ℕ, ◌+◌, ◌==◌, Bool, if◌then◌else◌, List, [], ◌∷◌, slice_index_or, slice_set}

-- how often a number stands in a list
abbrev pub occurrences : ℕ → List ℕ → ℕ
occurrences k [] = 0
occurrences k (x ∷ xs) = (if x == k then 1 else 0) + occurrences k xs

-- each number that passes the test stands in the list once, and no other does
pub record IsListOf (test : ℕ → Bool) (ks : List ℕ) : Type 0 where
  pub each : (k : ℕ) → occurrences k ks ≡ (if test k then 1 else 0)

-- f at these places of a table, one after another
abbrev pub at_places : {A : Type 0} → (ℕ → A → A) → A → List ℕ → List A → List A
at_places f d [] xs = xs
at_places f d (k ∷ ks) xs = at_places f d ks (slice_set xs k (f k (slice_index_or xs k d)))
