-- What leads to one net more was added.
use Rattle.std.proofs.Common.{◌++◌, ◌<◌, ◌∙◌, ap, length}
use Rattle.std.specs.List.{flat_map}
use Rattle.sg_circuit.specs.Circuit.{scope_at}
use Rattle.sg_circuit.specs.Seen.{circuit_seen}
use Rattle.annotation_model.specs.Ports.{nets_named}
use Rattle.annotation_places.specs.Places.{lookups_of, role_seen}
use Rattle.annotation_finder.proofs.CandidateSteps.{gathered-none, gathered-more, gathered-all, all-more, named-first}
use Rattle.annotation_finder.proofs.candidates.add_leading_to.Goals as goal

pub loop-net-init : goal.loop-net-init
loop-net-init c = record { items = gathered-none (lookups_of c.args.places.now).leading c.args.found.now.items; within = λ h. h }

pub loop-net-preserved : goal.loop-net-preserved
loop-net-preserved c = record {
  items = gathered-more (lookups_of c.args.places.now).leading c.args.found.now.items c.deref-net-items.result.now c.loop-net.net-index 0 c.loop-net.found.items c.add_leading.new.found.items
      c.loop-net-test.true c.loop-net.invariant.items c.in_ok-add_leading.ensures.items;
  within = λ h. all-more (λ k. k < length c.args.places.now.spots.items) c.loop-net.found.items _ c.add_leading.new.found.items c.in_ok-add_leading.ensures.items
      (c.loop-net.invariant.within h) c.add_leading.ensures.within;
}

pub returns : goal.returns
returns c = record {
  items = gathered-all (lookups_of c.args.places.now).leading c.args.found.now.items c.deref-net-items.result.now c.loop-net.net-index c.loop-net.found.items c.loop-net-test.false
      c.loop-net.invariant.items
      ∙ ap (λ nets. c.args.found.now.items ++ flat_map (lookups_of c.args.places.now).leading nets) (named-first (λ name. nets_named (role_seen c.args.role) (scope_at (circuit_seen c.args.places.now.parts.now) c.args.scope).variables name c.args.port.now.bit)
      c.deref-net-items.result.now c.add_nets.new.nets.items c.new-nets.result.items c.args.port.now.name.items c.deref.result.now c.deref-net-items.ensures.value c.in_ok-add_nets.ensures c.new-nets.ensures.items c.deref.ensures.value);
  within = c.loop-net.invariant.within;
}
