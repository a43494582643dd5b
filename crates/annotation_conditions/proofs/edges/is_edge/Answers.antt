-- Edges are the same where their changes are.
use Rattle.annotation_conditions.proofs.EdgeLaws.{edges_compared}
use Rattle.annotation_conditions.proofs.edges.is_edge.Goals as goal

pub returns-in-Some-Some : goal.returns-in-Some-Some
returns-in-Some-Some c = edges_compared c.eq.result _ _ _ _ c.in-Some-Some.is-0 c.in-Some-Some.is-1 c.eq.ensures
