use Rattle.settle_report.proofs.Outputs.{whole_text}
use Rattle.settle_report.proofs.bounds.bounds_text.Goals as goal

pub returns : goal.returns
returns c =
    whole_text c.args.circuit.now c.args.bounds.now c.top_variables.result.now c.new-text.result.items _ _ _ c.greatest.result c.new-text.ensures.items c.in_ok-push_outputs.ensures
    c.in_ok-extend_from_slice.ensures.items c.in_ok-push_number.ensures c.greatest.ensures c.top_variables.ensures
