-- Lines of variables that are ready but for their values.
use Rattle.std.specs.Prelude.{◌≡◌, ◌==◌, ◌<◌, ◌≤◌, ℕ, List, [], ◌∷◌, ◌++◌, false, not, length, slice_index_or, take}
use Rattle.wave_out.specs.Vcd.{code}
use Rattle.wave_out.specs.declared.lines.Line.{Line}

-- the line of the k-th variable, which has these bits: its code and the end, and its net where it has one bit
pub record IsLine (k : ℕ) (bits : List ℕ) (l : Line) : Type 0 where
  pub end : take l.length l.end ≡ code k ++ 10 ∷ []
  pub fits : l.length ≤ length l.end
  pub six : length l.end ≡ 6
  pub net : l.wide ≡ false → bits ≡ l.net ∷ []
  pub wide : l.wide ≡ not (length bits == 1)

-- the lines of the first variables, so many
pub record HasLines (count : ℕ) (bits : List (List ℕ)) (lines : List Line) : Type 0 where
  pub many : length lines ≡ count
  pub each : (k : ℕ) (d : Line) → k < count → IsLine k (slice_index_or bits k []) (slice_index_or lines k d)

-- the lines of all variables
abbrev pub AreLines : List (List ℕ) → List Line → Type 0
AreLines bits lines = HasLines (length bits) bits lines
