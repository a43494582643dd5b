-- Words of the functions that number a circuit's legs and paths, said of the code's kinds.
use Rattle.std.specs.Prelude.{◌≡◌, ℕ, suc, ◌-◌, ◌≤◌, List, [], ◌∷◌, ◌++◌, length, map, IfSome, slice_index_or}
use Rattle.std.specs.List.{range_with_len}
use Rattle.sg_circuit.specs.PathsSeen.{spanned}
use Rattle.sg_circuit.specs.Seen.{paths_of}
use Rattle.sg_circuit.specs.declared.elements.Element as code_element
use Rattle.sg_circuit.specs.declared.elements.ElementKind.{ElementKind}
use Rattle.sg_circuit.specs.declared.elements.ElementKind.TheVariants as kind
use Rattle.sg_circuit.specs.declared.paths.Path as code_path
use Rattle.annotation_spots.specs.declared.spots.Spot as code_spot

-- how many an element of a kind has
abbrev pub count_of : ElementKind → ℕ
count_of (kind.Leg timing) = 1
count_of (kind.Path paths style) = paths.end - paths.start
count_of _ = 0

abbrev pub counts_of : List code_element.Element → List ℕ
counts_of elements = map (λ e. count_of e.kind) elements

-- the rows of one element
abbrev pub rows_of : ℕ → ℕ → List code_spot.Spot
rows_of e count = map (λ p. record { element = e; path = p }) (range_with_len 0 count)

-- the rows of elements that have so many, numbered from k
abbrev pub rows_from : ℕ → List ℕ → List code_spot.Spot
rows_from k [] = []
rows_from k (count ∷ counts) = rows_of k count ++ rows_from (suc k) counts

-- where an element has paths, their span is ordered; it is part of its table
abbrev pub IsOrdered : ElementKind → Type 0
IsOrdered k = IfSome (paths_of k) (λ s. s.start ≤ s.end)

abbrev pub IsWithin : List code_path.Path → ElementKind → Type 0
IsWithin paths k = IfSome (paths_of k) (λ s. s.end ≤ length paths)

-- the place of the timing of a leg or a path
abbrev pub IsTimingAt : List code_path.Path → ElementKind → ℕ → ℕ → Type 0
IsTimingAt paths (kind.Leg timing) path place = place ≡ timing
IsTimingAt paths (kind.Path span style) path place = (d : code_path.Path) → place ≡ (slice_index_or (spanned paths span) path d).timing
IsTimingAt paths _ path place = Unit {0}
