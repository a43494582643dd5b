-- Words of contracts: what is known of the conditions of a circuit's table.
use Rattle.std.specs.Prelude.{◌≡◌, ◌↔◌, ◌<◌, ℕ, Bool, List, length, nat_lt, slice_index_or}
use Rattle.cond_expr.specs.Condition.{Condition}
use Rattle.sg_circuit.specs.PathsSeen.{written_at}
use Rattle.annotation_model.specs.Same.{bare}
use Rattle.written_model.specs.Faults.{depth_from}

-- a number for each, the same for those that are the same without the parentheses round them
pub record AreClasses (conditions : List Condition) (classes : List ℕ) : Type 0 where
  pub each : length classes ≡ length conditions
  pub same : (i j : ℕ) → i < length conditions → j < length conditions
      → (slice_index_or classes i 0 ≡ slice_index_or classes j 0) ↔ (bare (written_at conditions i) ≡ bare (written_at conditions j))

-- whether each nests too deep
pub record AreDeep (conditions : List Condition) (deep : List Bool) : Type 0 where
  pub each : length deep ≡ length conditions
  pub is : (i : ℕ) (d : Bool) → i < length conditions → slice_index_or deep i d ≡ nat_lt 27 (depth_from 0 (bare (written_at conditions i)))
