use Rattle.std.proofs.Common.{◌∙◌, subst, sym, arith}
use Rattle.why_causes.specs.Steps.{AreSteps}
use Rattle.why_causes.proofs.StepLaws.{the-step}
use Rattle.why_causes.proofs.WithinLaws.{first-in-time}
use Rattle.why_causes.proofs.steps.last_step.Goals as goal

pub overflow_add-time : goal.overflow_add-time
overflow_add-time c = let l = first-in-time c.args.trace.now c.args.limit c.args.inputs.now c.in-Some.first (sym c.in-Some.ensures) in omega (arith, l, c.ranges.limit.fits)

pub returns : goal.returns
returns c =
    c.last_of_steps.ensures
    ∙ the-step c.args.trace.now c.args.rows.now c.args.inputs.now c.args.state c.args.limit c.in-Some.first c.deref.result.now c.deref-2.result.now c.deref-3.result.now c.in-Some.ensures
    (c.deref.ensures.value ∙ c.in_ok-old.ensures) (c.deref-2.ensures.value ∙ c.in_ok-new.ensures)
    (subst (λ s. AreSteps c.args.rows.now c.deref.result.now c.deref-2.result.now c.args.state s) (sym c.deref-3.ensures.value) c.in_ok-steps.ensures)
