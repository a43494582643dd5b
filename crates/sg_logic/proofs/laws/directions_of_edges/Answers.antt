-- The law is a lemma.
use Rattle.sg_logic.proofs.EdgeLaws.{directions}
use Rattle.sg_logic.proofs.laws.directions_of_edges.Goals as goal

pub returns : goal.returns
returns c = directions
