-- The checks of the nets so far were added.
use Rattle.std.proofs.Common.{◌≡◌, ◌++◌, ◌<◌, length, take}
use Rattle.std.specs.List.{All, flat_map}
use Rattle.annotation_places.specs.Places.{lookups_of}
use Rattle.annotation_finder.proofs.candidates.add_referring_to.Given as goal

abbrev pub invariant-loop-net : goal.invariant-loop-net
invariant-loop-net l = record {
  items : l.found.items ≡ l.fn.found.items ++ flat_map (lookups_of l.places).referring (take l.net-index l.net-items);
  within : All (λ k. k < length l.places.parts.now.checks.items) l.fn.found.items → All (λ k. k < length l.places.parts.now.checks.items) l.found.items;
}
