-- A port with a path before it is no scope's own.
use Rattle.std.proofs.Common.{◌∙◌, ap, sym}
use Rattle.sg_circuit.specs.Circuit.{scope_at}
use Rattle.sg_circuit.specs.Seen.{circuit_seen}
use Rattle.annotation_model.specs.Ports.{has, nets_named}
use Rattle.annotation_places.specs.Places.{role_seen}
use Rattle.annotation_finder.proofs.PortLaws.{is_own, not_own}
use Rattle.annotation_finder.proofs.ports.NamedPort.is_own.Goals as goal

pub returns-then-not-is_empty : goal.returns-then-not-is_empty
returns-then-not-is_empty c =
    sym (ap (has c.args.net) (not_own (circuit_seen c.args.places.now.parts.now) (role_seen c.args.role) c.args.scope c.args.self.now.name.items c.args.self.now.path.items c.args.self.now.bit
    c.args.self.now.path.len c.is_empty.result c.args.self.now.path.ok.0 c.is_empty.ensures c.if-not-is_empty.true))

pub returns : goal.returns
returns c =
    c.has_net.ensures
    ∙ (ap (λ name. has c.args.net (nets_named (role_seen c.args.role) (scope_at (circuit_seen c.args.places.now.parts.now) c.args.scope).variables name c.args.self.now.bit)) c.deref.ensures.value
    ∙ ap (has c.args.net) (sym (is_own (circuit_seen c.args.places.now.parts.now) (role_seen c.args.role) c.args.scope c.args.self.now.name.items c.args.self.now.path.items c.args.self.now.bit
    c.args.self.now.path.len c.is_empty.result c.args.self.now.path.ok.0 c.is_empty.ensures c.if-not-is_empty.false)))
