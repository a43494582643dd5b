-- Going down from the scopes by the names that are left comes to the same.
use Rattle.std.proofs.Common.{◌≡◌, ◌<◌, All, length, drop}
use Rattle.std.specs.List.{flat_map}
use Rattle.annotation_index.specs.Candidates.{descend}
use Rattle.annotation_places.specs.Places.{lookups_of}
use Rattle.annotation_scopes.specs.Walks.{names_seen}
use Rattle.annotation_scopes.proofs.walks.descend.Given as goal

abbrev pub invariant-loop-name : goal.invariant-loop-name
invariant-loop-name l =
    (flat_map (descend (lookups_of l.places).inside (names_seen (drop l.name-index l.names))) l.scopes.items ≡ descend (lookups_of l.places).inside (names_seen l.names) l.scope)
    × All (λ s. s < length l.places.parts.now.scopes.items) l.scopes.items
