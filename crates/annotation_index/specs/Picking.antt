-- Places picked from candidates: those that pass a test, each once.
use Rattle.std.specs.Prelude.{◌≡◌, ℕ, ◌&&◌, Bool, true, false, if◌then◌else◌, List, slice_index_or}
use Rattle.annotation_model.specs.Listed.{occurrences, IsListOf}
use Rattle.annotation_model.specs.Ports.{has}

-- of the candidates seen, those that pass are marked, and each is listed once
pub record ArePicked (test : ℕ → Bool) (seen : List ℕ) (marks : List Bool) (found : List ℕ) : Type 0 where
  pub marked : (k : ℕ) → slice_index_or marks k false ≡ (has k seen && test k)
  pub each : (k : ℕ) → occurrences k found ≡ (if has k seen && test k then 1 else 0)

-- What an index promises: among the candidates is each place that passes.
pub record HasEach (test : ℕ → Bool) (candidates : List ℕ) : Type 0 where
  pub each : (k : ℕ) → test k ≡ true → has k candidates ≡ true

-- What is picked of the candidates is each place that passes, once, and no other.
abbrev pub PicksEach : (test : ℕ → Bool) (candidates : List ℕ) → Type 0
PicksEach test candidates = (marks : List Bool) (found : List ℕ) → ArePicked test candidates marks found → IsListOf test found
