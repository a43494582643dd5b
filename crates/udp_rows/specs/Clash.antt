-- When two rows clash.
use Rattle.std.specs.Prelude.{◌≡◌, ◌≢◌, true, false}
use Rattle.sg_logic.specs.Values.{is_same}
use Rattle.sg_logic.specs.declared.values.Value.TheVariants.{Z}
use Rattle.udp_rows.specs.declared.cells.RawRow.{RawRow}
use Rattle.udp_rows.specs.Meaning.{Step, row_covers, is_edge_row, output}

-- two level rows, or two edge rows, cover a common step and give it different outputs, - counting as the state. Where
-- both have one edge symbol, a common step shows that these stand at the same input
pub record Clash (a b : RawRow) : Type 0 where
  pub same_sort : is_edge_row a ≡ is_edge_row b
  pub common : Step
  pub state : is_same common.state Z ≡ false
  pub covered_by_a : row_covers common a ≡ true
  pub covered_by_b : row_covers common b ≡ true
  pub different : output a common.state ≢ output b common.state
