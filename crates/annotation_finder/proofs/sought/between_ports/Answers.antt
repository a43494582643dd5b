-- The two ports, without an edge or a condition.
use Rattle.std.proofs.Common.{refl}
use Rattle.annotation_finder.proofs.SearchLaws.{same_between}
use Rattle.annotation_finder.proofs.sought.between_ports.Goals as goal

pub returns : goal.returns
returns c = same_between _ _ _ _ _ _ _ c.in_ok-from.ensures c.in_ok-to.ensures refl
