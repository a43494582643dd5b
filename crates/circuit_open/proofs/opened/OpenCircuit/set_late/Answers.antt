use Rattle.std.proofs.Common.{◌∙◌, ap}
use Rattle.sg_circuit.specs.Circuit.{Circuit}
use Rattle.late_limits.specs.Adjusted.{late_kind}
use Rattle.circuit_open.specs.Open.{Open, with_kind}
use Rattle.circuit_open.proofs.OpenLaws.{late-set}
use Rattle.circuit_open.proofs.opened.OpenCircuit.set_late.Goals as goal

pub invariant_of-self : goal.invariant_of-self
invariant_of-self c =
    let h = late-set c.self.inside.parts c.set_kind.new.elements c.self.inside.room c.args.element c.args.delay c.args.self.now c.self.view_is c.requires.element c.requires.kind c.requires.delay
    c.self.invariant.0 c.self.invariant.1 c.set_kind.ensures in
    (h.closed, h.indexed, c.self.invariant.2, c.self.invariant.3)

pub returns : goal.returns
returns c =
    let h = late-set c.self.inside.parts c.set_kind.new.elements c.self.inside.room c.args.element c.args.delay c.args.self.now c.self.view_is c.requires.element c.requires.kind c.requires.delay
    c.self.invariant.0 c.self.invariant.1 c.set_kind.ensures in
    ap (λ (k : Circuit). record { circuit = k; room = c.self.inside.room }) h.seen
    ∙ ap (λ (n : _). record { circuit = with_kind (late_kind c.args.delay) c.args.element c.args.self.now.circuit; room = n }) (ap (λ (o : Open). o.room) c.self.view_is)
