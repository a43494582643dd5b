-- The times of events, and the greatest of those that a window takes.
use Rattle.std.specs.Prelude.{ℕ, Bool, if◌then◌else◌, List, [], ◌∷◌, Option, Some, None, max, filter}

-- one more time, where an event happens; the latest stands first
abbrev pub grown : Bool → ℕ → List ℕ → List ℕ
grown happens time times = if happens then time ∷ times else times

-- the greater of a number and perhaps another
abbrev pub greater : ℕ → Option ℕ → Option ℕ
greater t None = Some t
greater t (Some u) = Some (max t u)

-- the greatest of some numbers, if there is one
abbrev pub greatest : List ℕ → Option ℕ
greatest [] = None
greatest (t ∷ ts) = greater t (greatest ts)

-- the greatest of those that pass a test
abbrev pub greatest_of : (ℕ → Bool) → List ℕ → Option ℕ
greatest_of test ts = greatest (filter test ts)
