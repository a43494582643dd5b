-- The port is named below the scope to which its path leads up.
use Rattle.sg_circuit.specs.Seen.{circuit_seen}
use Rattle.annotation_finder.proofs.LegLaws.{not_below, found_below}
use Rattle.annotation_finder.proofs.legs.named_below.Goals as goal

pub returns-then-not-has_net-clause-found : goal.returns-then-not-has_net-clause-found
returns-then-not-has_net-clause-found c =
    not_below (circuit_seen c.args.places.now.parts.now) c.args.scope c.args.net c.args.port.now.name.items c.deref.result.now c.args.port.now.path.items c.args.port.now.bit c.has_net.result
    c.deref.ensures.value c.has_net.ensures c.if-not-has_net.true

pub returns-clause-found : goal.returns-clause-found
returns-clause-found c =
    found_below (circuit_seen c.args.places.now.parts.now) c.args.scope c.args.net c.args.port.now.name.items c.deref.result.now c.args.port.now.path.items c.deref-2.result.now c.args.port.now.bit c.has_net.result
    c.climb.result c.deref.ensures.value c.has_net.ensures c.if-not-has_net.false c.deref-2.ensures.value c.climb.ensures.found
