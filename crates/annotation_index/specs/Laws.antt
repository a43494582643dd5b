-- What indexes of a circuit promise.
use Rattle.std.specs.Prelude.{◌≡◌, ℕ, List, Some, reverse}
use Rattle.sg_circuit.specs.Circuit.{Circuit}
use Rattle.sg_circuit.specs.Closed.{IsClosed}
use Rattle.sdf_tree.specs.Written.{Port}
use Rattle.sdf_tree.specs.Meant.{Sdf}
use Rattle.annotation_model.specs.Given.{Given}
use Rattle.annotation_model.specs.Scopes.{names_back, climb, is_scope}
use Rattle.annotation_model.specs.Ports.{has}
use Rattle.annotation_model.specs.Matching.{is_source}
use Rattle.annotation_model.specs.Finding.{is_found_spot, is_found_check}
use Rattle.annotation_index.specs.Picking.{PicksEach}
use Rattle.annotation_index.specs.Candidates.{Lookups, AreOf, descend, cell_scopes, AreOfCell, spots_for, is_source_down, checks_for}

-- What is picked from the candidates of an entry is exactly what the entry is for, each once.
pub record IsExact (c : Circuit) (sdf : Sdf) (g : Given) (l : Lookups) : Type 0 where
  -- names lead down from a scope to those from which they lead up to it
  pub down : (names : List (List ℕ)) (s t : ℕ) → has s (descend l.inside names t) ≡ is_scope t (climb c (reverse names) (Some s))
  pub cell : AreOfCell c sdf.divider g (cell_scopes l sdf.divider g.cell_type g.instance)
  pub spots : (scopes : List ℕ) → AreOfCell c sdf.divider g scopes → PicksEach (is_found_spot c sdf g) (spots_for c sdf.divider l g.entry.kind scopes)
  -- the source of an INTERCONNECT entry is found in the scopes to which its names lead
  pub source : (from : Port) (net below : ℕ) → is_source c sdf.divider from net (Some below) ≡ is_source_down c l (names_back sdf.divider from.path) from.bit net below
  pub checks : (scopes : List ℕ) → AreOfCell c sdf.divider g scopes → PicksEach (is_found_check c sdf g) (checks_for c sdf.divider l g.entry.kind scopes)

abbrev pub IndexIsExact : Type 0
IndexIsExact = (c : Circuit) (sdf : Sdf) (g : Given) (l : Lookups) → IsClosed c → AreOf c l → IsExact c sdf g l
