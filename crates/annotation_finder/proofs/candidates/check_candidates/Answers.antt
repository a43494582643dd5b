-- The checks of one scope more were found.
use Rattle.std.proofs.Common.{[], ◌<◌, ◌∙◌, sym, ap, length}
use Rattle.std.specs.List.{flat_map}
use Rattle.std.proofs.lemmas.List.Elements.{All-nil, All-same}
use Rattle.sg_circuit.specs.Circuit.{scope_at}
use Rattle.sg_circuit.specs.Seen.{circuit_seen}
use Rattle.annotation_model.specs.Ports.{is_any, nets_named, own_nets}
use Rattle.annotation_places.specs.Places.{lookups_of}
use Rattle.annotation_finder.specs.Sought.{named_seen}
use Rattle.annotation_finder.proofs.CandidateSteps.{gathered-more, gathered-all, nothing-of, same-of}
use Rattle.annotation_finder.proofs.PortLaws.{is_own, not_own}
use Rattle.annotation_finder.proofs.candidates.check_candidates.Goals as goal

pub loop-scope-init : goal.loop-scope-init
loop-scope-init c = record { items = c.new-found.ensures.items; within = All-same (λ k. k < length c.args.places.now.parts.now.checks.items) _ [] c.new-found.ensures.items (All-nil (λ k. k < length c.args.places.now.parts.now.checks.items)) }

pub loop-scope-preserved : goal.loop-scope-preserved
loop-scope-preserved c = record {
  items = gathered-more (λ s. flat_map (lookups_of c.args.places.now).referring (nets_named is_any (scope_at (circuit_seen c.args.places.now.parts.now) s).variables c.args.port.now.name.items c.args.port.now.bit)) [] c.args.scopes.now c.loop-scope.scope-index 0
      c.loop-scope.found.items c.add_referring_to.new.found.items c.loop-scope-test.true c.loop-scope.invariant.items c.in_ok-add_referring_to.ensures.items;
  within = c.in_ok-add_referring_to.ensures.within c.loop-scope.invariant.within;
}

pub returns-then-not-is_empty-clause-items : goal.returns-then-not-is_empty-clause-items
returns-then-not-is_empty-clause-items c =
    c.new-found.ensures.items
    ∙ sym (nothing-of (λ s. flat_map (lookups_of c.args.places.now).referring (own_nets (circuit_seen c.args.places.now.parts.now) is_any s (named_seen c.args.port.now).names c.args.port.now.bit)) c.args.scopes.now
    (λ s. ap (flat_map (lookups_of c.args.places.now).referring)
    (not_own (circuit_seen c.args.places.now.parts.now) is_any s c.args.port.now.name.items c.args.port.now.path.items c.args.port.now.bit c.args.port.now.path.len c.is_empty.result c.args.port.now.path.ok.0 c.is_empty.ensures c.if-not-is_empty.true)))

pub returns : goal.returns
returns c = record {
  items = gathered-all (λ s. flat_map (lookups_of c.args.places.now).referring (nets_named is_any (scope_at (circuit_seen c.args.places.now.parts.now) s).variables c.args.port.now.name.items c.args.port.now.bit)) [] c.args.scopes.now c.loop-scope.scope-index
      c.loop-scope.found.items c.loop-scope-test.false c.loop-scope.invariant.items
      ∙ same-of (λ s. flat_map (lookups_of c.args.places.now).referring (nets_named is_any (scope_at (circuit_seen c.args.places.now.parts.now) s).variables c.args.port.now.name.items c.args.port.now.bit))
      (λ s. flat_map (lookups_of c.args.places.now).referring (own_nets (circuit_seen c.args.places.now.parts.now) is_any s (named_seen c.args.port.now).names c.args.port.now.bit)) c.args.scopes.now
      (λ s. ap (flat_map (lookups_of c.args.places.now).referring)
      (sym (is_own (circuit_seen c.args.places.now.parts.now) is_any s c.args.port.now.name.items c.args.port.now.path.items c.args.port.now.bit c.args.port.now.path.len c.is_empty.result c.args.port.now.path.ok.0 c.is_empty.ensures c.if-not-is_empty.false)));
  within = c.loop-scope.invariant.within;
}
