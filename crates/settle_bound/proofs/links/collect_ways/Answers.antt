use Rattle.std.proofs.Common.{◌≡◌, [], length, arith}
use Rattle.sg_circuit.specs.Seen.{circuit_seen}
use Rattle.settle_bound.specs.declared.ways.Ways.{Ways}
use Rattle.settle_bound.specs.Linked.{AreLinksOf}
use Rattle.settle_bound.proofs.LinkedLaws.{ways-fit, pins-fit}
use Rattle.settle_bound.proofs.links.collect_ways.Goals as goal

pub of_pins-requires : goal.of_pins-requires
of_pins-requires c =
    let w : Ways = record { nets = c.len-nets.result; links = c.in_ok-links.links; pins = c.in_ok-pins.pins; readers = [] } in
    let nets : c.len-nets.result ≡ length c.parts-parts.result.now.nets.items = omega (arith, c.len-nets.ensures) in
    let of : AreLinksOf (circuit_seen c.parts-parts.result.now) w = record { nets = nets; links = c.in_ok-links.ensures; pins = c.in_ok-pins.ensures.pins } in
    pins-fit c.args.circuit.now (circuit_seen c.parts-parts.result.now) w c.parts-parts.ensures.seen c.parts-parts.ensures.closed of c.in_ok-pins.ensures.few c.deref.result.now c.deref.ensures.value

pub returns-clause-ways : goal.returns-clause-ways
returns-clause-ways c =
    let w : Ways = record { nets = c.len-nets.result; links = c.in_ok-links.links; pins = c.in_ok-pins.pins; readers = c.in_ok-readers.readers } in
    let nets : c.len-nets.result ≡ length c.parts-parts.result.now.nets.items = omega (arith, c.len-nets.ensures) in
    let of : AreLinksOf (circuit_seen c.parts-parts.result.now) w = record { nets = nets; links = c.in_ok-links.ensures; pins = c.in_ok-pins.ensures.pins } in
    ways-fit c.args.circuit.now (circuit_seen c.parts-parts.result.now) w c.parts-parts.ensures.seen c.parts-parts.ensures.closed of c.in_ok-pins.ensures.few c.deref.result.now c.deref.ensures.value c.in_ok-readers.ensures.each c.in_ok-readers.ensures.keys
