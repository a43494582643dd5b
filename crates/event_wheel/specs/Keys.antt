-- Lists of keys.
use Rattle.std.specs.Prelude.{◌≡◌, ◌≢◌, ℕ, ◌⊎◌, List, [], ◌∷◌}

-- the key is in the list
abbrev pub Has : ℕ → List ℕ → Type 0
Has k [] = ⊥
Has k (x ∷ xs) = (x ≡ k) ⊎ Has k xs

-- the key isn't in the list
abbrev pub IsOutside : ℕ → List ℕ → Type 0
IsOutside k [] = Unit {0}
IsOutside k (x ∷ xs) = (x ≢ k) × IsOutside k xs

-- no key stands twice
abbrev pub AreDistinct : List ℕ → Type 0
AreDistinct [] = Unit {0}
AreDistinct (x ∷ xs) = IsOutside x xs × AreDistinct xs
