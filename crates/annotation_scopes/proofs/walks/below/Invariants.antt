-- The scopes below those so far.
use Rattle.std.proofs.Common.{◌≡◌, ◌<◌, All, length, take}
use Rattle.std.specs.List.{flat_map}
use Rattle.annotation_places.specs.Places.{lookups_of}
use Rattle.annotation_scopes.proofs.walks.below.Given as goal

abbrev pub invariant-loop-scope : goal.invariant-loop-scope
invariant-loop-scope l =
    (l.found.items ≡ flat_map (λ s. (lookups_of l.places).inside s l.name) (take l.scope-index l.scopes)) × All (λ s. s < length l.places.parts.now.scopes.items) l.found.items
