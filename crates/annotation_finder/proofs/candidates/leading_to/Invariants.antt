-- What leads to the port of the scopes so far was found.
use Rattle.std.proofs.Common.{◌≡◌, ◌<◌, length, take}
use Rattle.std.specs.List.{All, flat_map}
use Rattle.sg_circuit.specs.Circuit.{scope_at}
use Rattle.sg_circuit.specs.Seen.{circuit_seen}
use Rattle.annotation_model.specs.Ports.{nets_named}
use Rattle.annotation_places.specs.Places.{lookups_of, role_seen}
use Rattle.annotation_finder.proofs.candidates.leading_to.Given as goal

abbrev pub invariant-loop-scope : goal.invariant-loop-scope
invariant-loop-scope l = record {
  items : l.found.items ≡ flat_map (λ s. flat_map (lookups_of l.places).leading (nets_named (role_seen l.role) (scope_at (circuit_seen l.places.parts.now) s).variables l.port.name.items l.port.bit)) (take l.scope-index l.scopes);
  within : All (λ k. k < length l.places.spots.items) l.found.items;
}
