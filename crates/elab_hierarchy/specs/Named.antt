-- The names of the code's definitions.
use Rattle.std.specs.Prelude.{◌≡◌, ℕ, List, [], map, Option, bytes_eq}
use Rattle.std.specs.Borrow.{Bor}
use Rattle.std.specs.List.{position_from}
use Rattle.vl_tree.specs.Tree.{Source}
use Rattle.elab_model.specs.Definitions.{name_of}
use Rattle.elab_model.specs.HierarchyFaults.{two_definitions}

-- the names are those of the definitions, in order, and each is another
pub record AreNames (names : List (Bor (List ℕ))) (source : Source) : Type 0 where
  pub same : map (λ n. n.now) names ≡ map (λ p. (name_of p).text) source
  pub once : two_definitions source ≡ []

-- the place of the definition of a name
abbrev pub place_of : Source → List ℕ → Option ℕ
place_of source n = position_from (λ d. bytes_eq n (name_of d).text) 0 source
