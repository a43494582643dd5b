-- The row of an instance: its table, and the numbers of the nets of its bits.
use Rattle.std.specs.Prelude.{◌≡◌, ℕ, List, map}
use Rattle.vl_tree.specs.Tree.{Source}
use Rattle.elab_model.specs.Hierarchy.{Instance}
use Rattle.elab_model.specs.Names.{Variable, variables}
use Rattle.elab_model.specs.Nets.{OwnNet}
use Rattle.elab_laws.specs.Handing.{all_bits, number_at}

pub record HasNumbers (all : List OwnNet) (source : Source) (s : Instance) (vs : List Variable) (row : List ℕ) : Type 0 where
  pub table : vs ≡ variables s.step.definition
  pub numbers : row ≡ map (number_at all source s) (all_bits vs)
