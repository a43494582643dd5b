-- What stands in the scopes so far was found.
use Rattle.std.proofs.Common.{◌≡◌, ◌<◌, length, take}
use Rattle.std.specs.List.{All, flat_map}
use Rattle.annotation_places.specs.Places.{lookups_of}
use Rattle.annotation_finder.proofs.candidates.standing_in.Given as goal

abbrev pub invariant-loop-scope : goal.invariant-loop-scope
invariant-loop-scope l = record {
  items : l.found.items ≡ flat_map (lookups_of l.places).standing (take l.scope-index l.scopes);
  within : All (λ k. k < length l.places.spots.items) l.found.items;
}
