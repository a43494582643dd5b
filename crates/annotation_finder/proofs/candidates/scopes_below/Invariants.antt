-- The scopes below those so far were found.
use Rattle.std.proofs.Common.{◌≡◌, ◌<◌, length, take}
use Rattle.std.specs.List.{All, flat_map}
use Rattle.annotation_index.specs.Candidates.{descend}
use Rattle.annotation_places.specs.Places.{lookups_of}
use Rattle.annotation_scopes.specs.Walks.{names_seen}
use Rattle.annotation_finder.proofs.candidates.scopes_below.Given as goal

abbrev pub invariant-loop-scope : goal.invariant-loop-scope
invariant-loop-scope l = record {
  items : l.below.items ≡ flat_map (descend (lookups_of l.places).inside (names_seen l.names)) (take l.scope-index l.scopes);
  within : All (λ s. s < length l.places.parts.now.scopes.items) l.below.items;
}
