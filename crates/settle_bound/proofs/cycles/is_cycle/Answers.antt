use Rattle.sg_circuit.specs.Seen.{circuit_seen}
use Rattle.settle_bound.proofs.HopLaws.{cycle-not, cycle-is}
use Rattle.settle_bound.proofs.cycles.is_cycle.Goals as goal

pub returns-then-not-follow : goal.returns-then-not-follow
returns-then-not-follow c = cycle-not c.args.circuit.now (circuit_seen c.parts-parts.result.now) c.args.hops.now c.in-Some.last.now c.follow.result c.parts-parts.ensures.seen c.in-Some.ensures.value c.follow.ensures c.if-not-follow.true

pub returns : goal.returns
returns c =
    cycle-is c.args.circuit.now (circuit_seen c.parts-parts.result.now) c.args.hops.now c.in-Some.last.now c.are_hops.result c.follow.result c.are_once.result c.parts-parts.ensures.seen c.in-Some.ensures.value c.are_hops.ensures c.if-not-are_hops.false
    c.follow.ensures c.if-not-follow.false c.are_once.ensures
