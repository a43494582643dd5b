-- The checks of the scopes so far were found.
use Rattle.std.proofs.Common.{◌≡◌, ◌<◌, length, take}
use Rattle.std.specs.List.{All, flat_map}
use Rattle.sg_circuit.specs.Circuit.{scope_at}
use Rattle.sg_circuit.specs.Seen.{circuit_seen}
use Rattle.annotation_model.specs.Ports.{is_any, nets_named}
use Rattle.annotation_places.specs.Places.{lookups_of}
use Rattle.annotation_finder.proofs.candidates.check_candidates.Given as goal

abbrev pub invariant-loop-scope : goal.invariant-loop-scope
invariant-loop-scope l = record {
  items : l.found.items ≡ flat_map (λ s. flat_map (lookups_of l.places).referring (nets_named is_any (scope_at (circuit_seen l.places.parts.now) s).variables l.port.name.items l.port.bit)) (take l.scope-index l.scopes);
  within : All (λ k. k < length l.places.parts.now.checks.items) l.found.items;
}
