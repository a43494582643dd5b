-- None was found inside the scopes so far.
use Rattle.std.proofs.Common.{◌≡◌, false, length, take}
use Rattle.std.specs.List.{flat_map, list_any}
use Rattle.sg_circuit.specs.Seen.{circuit_seen}
use Rattle.annotation_index.specs.Candidates.{descend, is_source_at}
use Rattle.annotation_places.specs.Places.{lookups_of}
use Rattle.annotation_scopes.specs.Walks.{names_seen}
use Rattle.annotation_finder.proofs.legs.+is_source_inside.Given as goal

abbrev pub invariant-loop-inner : goal.invariant-loop-inner
invariant-loop-inner l =
    list_any (is_source_at (circuit_seen l.places.parts.now) l.name l.bit l.net) (flat_map (descend (lookups_of l.places).inside (names_seen l.rest)) (take l.inner-index l.inner-items)) ≡ false

abbrev pub decreases-is_source_inside : goal.decreases-is_source_inside
decreases-is_source_inside l = length l.path.now
