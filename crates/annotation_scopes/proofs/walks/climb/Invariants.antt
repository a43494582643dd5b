-- Climbing by the names that are left comes to the same.
use Rattle.std.proofs.Common.{◌≡◌, ◌<◌, Some, length, reverse}
use Rattle.sg_circuit.specs.Seen.{circuit_seen}
use Rattle.annotation_model.specs.Scopes.{climb}
use Rattle.annotation_scopes.specs.Walks.{names_seen}
use Rattle.annotation_scopes.proofs.walks.climb.Given as goal

abbrev pub invariant-more : goal.invariant-more
invariant-more l =
    (climb (circuit_seen l.places.parts.now) (reverse (names_seen l.left)) (Some l.at) ≡ climb (circuit_seen l.places.parts.now) (reverse (names_seen l.names)) (Some l.scope))
    × (l.at < length l.places.parts.now.scopes.items)

abbrev pub decreases-more : goal.decreases-more
decreases-more l = length l.left
