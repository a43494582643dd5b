-- Words of contracts: codes that are numbered, the same code by the same number.
use Rattle.std.specs.Prelude.{◌≡◌, ℕ, ◌<◌, List, [], Some, length, map, slice_get, slice_index_or}
use Rattle.std.specs.Global.{Vec}
use Rattle.cond_expr.specs.Condition.{Condition}
use Rattle.annotation_model.specs.Same.{bare}
use Rattle.written_faults.specs.Codes.{tokens_code}

-- the number of each code is the place where it stands among those that were kept, each once
pub record AreNumbered (codes : List (List ℕ)) (kept : List (Vec ℕ)) (numbers : List ℕ) : Type 0 where
  pub each : length numbers ≡ length codes
  pub stands : (i : ℕ) → i < length codes → (k : Vec ℕ) × (slice_get kept (slice_index_or numbers i 0) ≡ Some k) × (k.items ≡ slice_index_or codes i [])
  pub once : (i j : ℕ) (k l : Vec ℕ) → slice_get kept i ≡ Some k → slice_get kept j ≡ Some l → k.items ≡ l.items → i ≡ j

-- the codes of conditions
abbrev pub class_codes : List Condition → List (List ℕ)
class_codes conditions = map (λ ts. tokens_code (bare ts)) (map (λ c. c.tokens) conditions)
