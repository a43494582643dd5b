-- What leads to the nets so far was added.
use Rattle.std.proofs.Common.{◌≡◌, ◌++◌, ◌<◌, length, take}
use Rattle.std.specs.List.{All, flat_map}
use Rattle.annotation_places.specs.Places.{lookups_of}
use Rattle.annotation_finder.proofs.candidates.add_leading_to.Given as goal

abbrev pub invariant-loop-net : goal.invariant-loop-net
invariant-loop-net l = record {
  items : l.found.items ≡ l.fn.found.items ++ flat_map (lookups_of l.places).leading (take l.net-index l.net-items);
  within : All (λ k. k < length l.places.spots.items) l.fn.found.items → All (λ k. k < length l.places.spots.items) l.found.items;
}
