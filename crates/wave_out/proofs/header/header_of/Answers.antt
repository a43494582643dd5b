use Rattle.wave_out.proofs.HeaderLaws.{header_made, visits_known}
use Rattle.wave_out.proofs.header.header_of.Goals as goal

pub push_visits-requires : goal.push_visits-requires
push_visits-requires c = visits_known c.parts-parts.result.now c.args.circuit.now c.args.order.now c.parts-parts.ensures.seen c.parts-parts.ensures.closed c.requires

pub returns : goal.returns
returns c =
    header_made c.parts-parts.result.now c.args.circuit.now c.args.order.now c.parts-parts.ensures.seen c.requires
    (rw c.new-text.ensures.items at c.in_ok-extend_from_slice.ensures.items) c.in_ok-push_tick.ensures c.in_ok-extend_from_slice-2.ensures.items c.in_ok-push_visits.ensures c.in_ok-extend_from_slice-3.ensures.items
