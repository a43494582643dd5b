use Rattle.std.proofs.Common.{◌≡◌, ◌∙◌, ◌-◌, ap, arith}
use Rattle.sg_circuit.specs.Circuit.{Circuit}
use Rattle.circuit_open.specs.Open.{Open, with_kind, with_leg}
use Rattle.sg_circuit.specs.TimingsSeen.{leg_timing_seen}
use Rattle.circuit_open.proofs.OpenLaws.{leg-set}
use Rattle.circuit_open.proofs.opened.OpenCircuit.set_leg.Goals as goal

pub invariant_of-self : goal.invariant_of-self
invariant_of-self c =
    let h = leg-set c.self.inside.parts c.add_timing-place.new.timings c.set_kind.new.elements c.self.inside.room c.args.element c.add_timing-place.result c.args.timing c.args.self.now c.self.view_is
    c.requires.element c.requires.kind c.requires.timing c.self.invariant.0 c.self.invariant.1 c.add_timing-place.ensures.items c.add_timing-place.ensures.place c.set_kind.ensures in
    let r : c.self.inside.room ≡ c.args.self.now.room = ap (λ (o : Open). o.room) c.self.view_is in (
      h.closed,
      h.indexed,
      omega (arith, c.requires.room, r, c.self.invariant.2, c.add_timing-place.ensures.len, c.add_timing-place.ensures.capacity),
      omega (arith, c.requires.room, r, c.self.invariant.3, c.add_timing-place.ensures.len),
    )

pub returns : goal.returns
returns c =
    let h = leg-set c.self.inside.parts c.add_timing-place.new.timings c.set_kind.new.elements c.self.inside.room c.args.element c.add_timing-place.result c.args.timing c.args.self.now c.self.view_is
    c.requires.element c.requires.kind c.requires.timing c.self.invariant.0 c.self.invariant.1 c.add_timing-place.ensures.items c.add_timing-place.ensures.place c.set_kind.ensures in
    let r : c.self.inside.room ≡ c.args.self.now.room = ap (λ (o : Open). o.room) c.self.view_is in
    ap (λ (k : Circuit). record { circuit = k; room = c.self.inside.room - 1 }) h.seen
    ∙ ap (λ (n : _). record { circuit = with_kind (with_leg (leg_timing_seen c.args.timing)) c.args.element c.args.self.now.circuit; room = n - 1 }) r
