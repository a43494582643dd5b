-- A table of the legs and specify paths of a circuit, in the order of its elements.
use Rattle.std.specs.Prelude.{◌≡◌, ℕ, ◌+◌, ◌<◌, ◌≤◌, List, length, take, slice_index_or}
use Rattle.std.specs.List.{flat_map}
use Rattle.sg_circuit.specs.Circuit.{Circuit, Element, element_at}
use Rattle.annotation_model.specs.Spots.{Spot, spots, spots_of}
use Rattle.annotation_model.specs.Finding.{no_spot}
use Rattle.annotation_spots.specs.declared.spots.Spot as code_spot

-- how many lead to the outputs of the elements before one
abbrev pub spots_before : List Element → ℕ → ℕ
spots_before es e = length (flat_map spots_of (take e es))

-- the one at a place among those of an element
abbrev pub spot_of : Circuit → code_spot.Spot → Spot
spot_of c row = slice_index_or (spots_of (element_at c row.element)) row.path no_spot

pub record IsIn (c : Circuit) (row : code_spot.Spot) : Type 0 where
  pub element : row.element < length c.elements
  pub path : row.path < length (spots_of (element_at c row.element))

-- a row for each, in order
pub record AreRows (c : Circuit) (rows : List code_spot.Spot) : Type 0 where
  pub count : length rows ≡ length (spots c)
  pub within : (k : ℕ) (d : code_spot.Spot) → k < length rows → IsIn c (slice_index_or rows k d)
  pub number : (k : ℕ) (d : code_spot.Spot) → k < length rows → spots_before c.elements (slice_index_or rows k d).element + (slice_index_or rows k d).path ≡ k

-- how many stand before each element, and at the end how many there are
pub record AreFirsts (c : Circuit) (firsts : List ℕ) : Type 0 where
  pub count : length firsts ≡ length c.elements + 1
  pub each : (e d : ℕ) → e ≤ length c.elements → slice_index_or firsts e d ≡ spots_before c.elements e
