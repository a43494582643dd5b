use Rattle.sg_circuit.specs.Circuit.{element_at}
use Rattle.why_text.proofs.LineLaws.{constant_made}
use Rattle.why_text.proofs.lines.push_constant.Goals as goal

pub returns : goal.returns
returns c =
    constant_made c.args.text.now.items c.args.circuit.now c.args.event (element_at c.args.circuit.now c.args.element) c.place_of.result.0 c.place_of.ensures.scope
    c.in_ok-push_event.ensures c.in_ok-extend_from_slice.ensures.items c.in_ok-push_instance.ensures c.in_ok-push.ensures.items
