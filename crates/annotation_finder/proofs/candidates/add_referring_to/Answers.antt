-- The checks of one net more were added.
use Rattle.std.proofs.Common.{◌++◌, ◌<◌, ◌∙◌, ap, length}
use Rattle.std.specs.List.{flat_map}
use Rattle.sg_circuit.specs.Circuit.{scope_at}
use Rattle.sg_circuit.specs.Seen.{circuit_seen}
use Rattle.annotation_model.specs.Ports.{is_any, nets_named}
use Rattle.annotation_places.specs.Places.{lookups_of}
use Rattle.annotation_finder.proofs.CandidateSteps.{gathered-none, gathered-more, gathered-all, all-more, named-first}
use Rattle.annotation_finder.proofs.candidates.add_referring_to.Goals as goal

pub loop-net-init : goal.loop-net-init
loop-net-init c = record { items = gathered-none (lookups_of c.args.places.now).referring c.args.found.now.items; within = λ h. h }

pub loop-net-preserved : goal.loop-net-preserved
loop-net-preserved c =
    let e = c.in_ok-extend_from_slice.ensures.items ∙ ap (λ ks. c.loop-net.found.items ++ ks) c.referring.ensures.items in
    record {
      items = gathered-more (lookups_of c.args.places.now).referring c.args.found.now.items c.deref-net-items.result.now c.loop-net.net-index 0 c.loop-net.found.items c.extend_from_slice.new.self.items
          c.loop-net-test.true c.loop-net.invariant.items e;
      within = λ h. all-more (λ k. k < length c.args.places.now.parts.now.checks.items) c.loop-net.found.items c.referring.result.now c.extend_from_slice.new.self.items c.in_ok-extend_from_slice.ensures.items
          (c.loop-net.invariant.within h) c.referring.ensures.within;
    }

pub returns : goal.returns
returns c = record {
  items = gathered-all (lookups_of c.args.places.now).referring c.args.found.now.items c.deref-net-items.result.now c.loop-net.net-index c.loop-net.found.items c.loop-net-test.false
      c.loop-net.invariant.items
      ∙ ap (λ nets. c.args.found.now.items ++ flat_map (lookups_of c.args.places.now).referring nets) (named-first (λ name. nets_named is_any (scope_at (circuit_seen c.args.places.now.parts.now) c.args.scope).variables name c.args.port.now.bit)
      c.deref-net-items.result.now c.add_nets.new.nets.items c.new-nets.result.items c.args.port.now.name.items c.deref.result.now c.deref-net-items.ensures.value c.in_ok-add_nets.ensures c.new-nets.ensures.items c.deref.ensures.value);
  within = c.loop-net.invariant.within;
}
