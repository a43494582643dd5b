use Rattle.std.proofs.lemmas.Result.{on_ok_weaker}
use Rattle.why_text.proofs.ToggleLaws.{toggled_by, toggled_by_none}
use Rattle.why_text.proofs.toggles.push_toggled.Goals as goal

pub returns-in_ok-extend_from_slice-in-Some : goal.returns-in_ok-extend_from_slice-in-Some
returns-in_ok-extend_from_slice-in-Some c =
    on_ok_weaker c.push_violation.result
    (λ last. toggled_by c.args.circuit.now c.args.event c.args.violations.now c.in-Some.place _ c.args.text.now.items _ _ _ c.in-Some.ensures c.in_ok-push_event.ensures c.in_ok-extend_from_slice-in-Some.ensures.items last)
    c.push_violation.ensures

pub returns-in_ok-extend_from_slice-in-None : goal.returns-in_ok-extend_from_slice-in-None
returns-in_ok-extend_from_slice-in-None c =
    toggled_by_none c.args.circuit.now c.args.event c.args.violations.now c.args.text.now.items _ _ c.in-None.ensures c.in_ok-push_event.ensures c.in_ok-extend_from_slice-in-None.ensures.items
