use Rattle.why_text.proofs.LineLaws.{start_made}
use Rattle.why_text.proofs.lines.push_start.Goals as goal

pub returns : goal.returns
returns c = start_made c.args.text.now.items c.args.circuit.now c.args.event c.in_ok-push_event.ensures c.in_ok-extend_from_slice.ensures.items
