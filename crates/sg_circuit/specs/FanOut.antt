-- The fan-out of a circuit: the elements that read each net.
use Rattle.std.specs.Prelude.{◌≡◌, ℕ, suc, ◌<◌, ◌==◌, ◌||◌, Bool, false, if◌then◌else◌, List, [], ◌∷◌, length, slice_index_or}

-- whether a number stands in a list
abbrev pub has : ℕ → List ℕ → Bool
has k [] = false
has k (x ∷ xs) = x == k || has k xs

-- of elements with these inputs, numbered from k, those that read a net, in rising order and each once
abbrev pub readers_from : ℕ → ℕ → List (List ℕ) → List ℕ
readers_from net k [] = []
readers_from net k (nets ∷ rest) = if has net nets then (k ∷ readers_from net (suc k) rest) else readers_from net (suc k) rest

-- the readers of a net, in a table with a list for each
abbrev pub readers_at : List (List ℕ) → ℕ → List ℕ
readers_at fan net = slice_index_or fan net []

-- the table has the readers of each net
pub record IsFanOut (inputs fan : List (List ℕ)) : Type 0 where
  pub each : (net : ℕ) → net < length fan → readers_at fan net ≡ readers_from net 0 inputs
