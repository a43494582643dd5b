use Rattle.why_top.proofs.Answered.{violation_told}
use Rattle.why_top.proofs.answers.parts_answer.Goals as goal

pub returns : goal.returns
returns c =
    violation_told c.args.circuit.now c.args.run.now _ _ c.args.place _ c.in_ok-report.report.items (rw (c.deref.ensures.value, c.deref-2.ensures.value) at c.in_ok-trace.ensures) c.as_slice-violations.ensures.value
    c.requires.place c.in_ok-report.ensures
