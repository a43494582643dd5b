-- What leads to the port of one scope more was found.
use Rattle.std.proofs.Common.{[], ◌<◌, length}
use Rattle.std.specs.List.{flat_map}
use Rattle.std.proofs.lemmas.List.Elements.{All-nil, All-same}
use Rattle.sg_circuit.specs.Circuit.{scope_at}
use Rattle.sg_circuit.specs.Seen.{circuit_seen}
use Rattle.annotation_model.specs.Ports.{nets_named}
use Rattle.annotation_places.specs.Places.{lookups_of, role_seen}
use Rattle.annotation_finder.proofs.CandidateSteps.{gathered-more, gathered-all}
use Rattle.annotation_finder.proofs.candidates.leading_to.Goals as goal

pub loop-scope-init : goal.loop-scope-init
loop-scope-init c = record { items = c.new-found.ensures.items; within = All-same (λ k. k < length c.args.places.now.spots.items) _ [] c.new-found.ensures.items (All-nil (λ k. k < length c.args.places.now.spots.items)) }

pub loop-scope-preserved : goal.loop-scope-preserved
loop-scope-preserved c = record {
  items = gathered-more (λ s. flat_map (lookups_of c.args.places.now).leading (nets_named (role_seen c.args.role) (scope_at (circuit_seen c.args.places.now.parts.now) s).variables c.args.port.now.name.items c.args.port.now.bit)) [] c.args.scopes.now c.loop-scope.scope-index 0
      c.loop-scope.found.items c.add_leading_to.new.found.items c.loop-scope-test.true c.loop-scope.invariant.items c.in_ok-add_leading_to.ensures.items;
  within = c.in_ok-add_leading_to.ensures.within c.loop-scope.invariant.within;
}

pub returns : goal.returns
returns c = record {
  items = gathered-all (λ s. flat_map (lookups_of c.args.places.now).leading (nets_named (role_seen c.args.role) (scope_at (circuit_seen c.args.places.now.parts.now) s).variables c.args.port.now.name.items c.args.port.now.bit)) [] c.args.scopes.now c.loop-scope.scope-index
      c.loop-scope.found.items c.loop-scope-test.false c.loop-scope.invariant.items;
  within = c.loop-scope.invariant.within;
}
